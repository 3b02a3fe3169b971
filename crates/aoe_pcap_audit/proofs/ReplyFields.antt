-- A reply that the law allows is one of the device, to a request.
use Rattle.std.proofs.Common.{◌≡◌, ◌≤◌, ◌+◌, ◌-◌, ◌/◌, ◌%◌, ℕ, List, [], ◌∷◌, ◌++◌, length, drop, get_or, Bool, true, false, Option, Some, None, inl, inr, refl, sym, ap, subst, ◌∙◌, append_assoc, arith, eq-eqb}
use Rattle.std.specs.Prelude.{if◌then◌else◌, ◌*◌, is_some, nat_lt, replicate}
use Rattle.std.specs.Option.{option_map}
use Rattle.std.specs.Int.{w16, w32, to_be_bytes}
use Rattle.std.proofs.lemmas.Bool.{cases_Bool}
use Rattle.std.proofs.lemmas.List.{length-take-le, length-drop}
use Rattle.aoe_base.specs.Addresses.{holds}
use Rattle.aoe_base.proofs.AddressLemmas.{holds-each}
use Rattle.aoe_base.specs.Refusal.{code_of_error}
use Rattle.aoe_base.specs.declared.refusal.AoeError.{AoeError}
use Rattle.aoe_base.specs.declared.refusal.AoeError.TheVariants.{DeviceUnavailable}
use Rattle.aoe_ata.specs.declared.decision.AtaAnswer.{AtaAnswer}
use Rattle.aoe_ata.specs.declared.decision.AtaAnswer.TheVariants.{Abort, NotFound, Page, Mode, Give, Put, Verify, Sync}
use Rattle.aoe_ata.specs.Args.{args_bytes}
use Rattle.aoe_ata.specs.Reply.{reply_of}
use Rattle.aoe_ata.specs.declared.args.AtaArgs.{AtaArgs}
use Rattle.aoe_ata.specs.declared.reply.AtaOutcome.TheVariants.{Done, Active, Aborted, NotFound as OutOfRange, Uncorrectable}
use Rattle.aoe_frame.specs.Header.{Fits, IsFlags, fields, head, header_bytes, reply_header}
use Rattle.aoe_frame.specs.declared.header.Header.{Header}
use Rattle.aoe_frame.proofs.HeaderLemmas.{head-header_bytes, head-fields, head-long}
use Rattle.aoe_lists.specs.Settings.{Settings}
use Rattle.aoe_lists.specs.Step.{Step}
use Rattle.aoe_lists.specs.Step as step
use Rattle.aoe_target.specs.Device.{State}
use Rattle.aoe_target.specs.Law.{Allows, AllowsAta, AllowsStep, Fate, cut, ignored, replied, silent, step_of}
use Rattle.aoe_target.specs.Reply.{data_of, error_args, identity, repeated, reply_port, spelled}
use Rattle.aoe_target.specs.Sectors.{Sectors}
use Rattle.aoe_target.specs.Verdict.{is_heard, judged, verdict}
use Rattle.aoe_target.specs.declared.heard.Effect.{Effect}
use Rattle.aoe_target.specs.declared.heard.Effect.TheVariants as effect
use Rattle.aoe_target.specs.declared.station.Station.{Station}
use Rattle.aoe_target.specs.declared.verdict.Verdict.{Verdict}
use Rattle.aoe_target.specs.declared.verdict.Verdict.TheVariants.{Ignored, Silent, Refused, Lists, Ata}
use Rattle.aoe_target.proofs.OneReply.{edits-is, gives-is, syncs-is, verifies-is, writes-is}
use Rattle.aoe_audit.specs.Captured.{class_of_whole, is_own}
use Rattle.aoe_audit.specs.declared.class.Class.{Class}
use Rattle.aoe_audit.specs.declared.class.Class.TheVariants as class
use Rattle.aoe_pcap_audit.specs.Capturing.{IsOnWire}

-- Its bytes.

-- a reply to a frame, as it is spelled
record IsSpelled (station : Station) (f reply : List ℕ) : Type 0 where
  error : Option AoeError
  args : List ℕ
  bytes : reply ≡ spelled station (fields f) error args

abbrev bytes_of : Fate → List ℕ
bytes_of ignored = []
bytes_of silent = []
bytes_of cut = []
bytes_of (replied e reply) = reply

module _ (station : Station) (f : List ℕ) (e : Effect) (reply : List ℕ) where
  plain : (error : Option AoeError) (args : List ℕ) (d : Effect) → replied e reply ≡ replied d (spelled station (fields f) error args)
      → IsSpelled station f reply
  plain error args d is = record { error = error; args = args; bytes = ap bytes_of is }

  step-spelled : (s : Step) → AllowsStep station f s (replied e reply) → IsSpelled station f reply
  step-spelled step.Silent is = absurd (cc)
  step-spelled (step.Reply None args) is = plain None args effect.None is
  step-spelled (step.Reply (Some error) args) is = plain (Some error) (error_args error f args) effect.None is
  step-spelled (step.Change next args) is = elim (edits-is e station f args reply is) [
    | inl done ↦ record { error = None; args = args; bytes = done.1 }
    | inr failed ↦ record { error = Some DeviceUnavailable; args = repeated f; bytes = failed.1 }
  ]

  ata-spelled : (a : AtaAnswer) (k : Option Sectors) (args : AtaArgs) → AllowsAta station k (fields f) args a (replied e reply) → IsSpelled station f reply
  ata-spelled Abort k args is = plain None (args_bytes (reply_of args Aborted)) effect.None is
  ata-spelled NotFound k args is = plain None (args_bytes (reply_of args OutOfRange)) effect.None is
  ata-spelled Page k args is = plain None (args_bytes (reply_of args Done) ++ identity station) effect.None is
  ata-spelled Mode k args is = plain None (args_bytes (reply_of args Active)) effect.None is
  ata-spelled (Give span) k args is = elim (gives-is e station k (fields f) args span reply is) [
    | inl given ↦ record { error = None; args = args_bytes (reply_of args Done) ++ data_of span reply; bytes = given.1.1 }
    | inr failed ↦ record { error = None; args = args_bytes (reply_of args Uncorrectable); bytes = failed.1 }
  ]
  ata-spelled (Put span) k args is = elim (writes-is e station (fields f) args span reply is) [
    | inl done ↦ record { error = None; args = args_bytes (reply_of args Done); bytes = done.1 }
    | inr failed ↦ record { error = None; args = args_bytes (reply_of args Aborted); bytes = failed.1 }
  ]
  ata-spelled (Verify span) k args is = elim (verifies-is e station (fields f) args reply is) [
    | inl done ↦ record { error = None; args = args_bytes (reply_of args Done); bytes = done.1 }
    | inr failed ↦ record { error = None; args = args_bytes (reply_of args Uncorrectable); bytes = failed.1 }
  ]
  ata-spelled Sync k args is = elim (syncs-is e station (fields f) args reply is) [
    | inl done ↦ record { error = None; args = args_bytes (reply_of args Done); bytes = done.1 }
    | inr failed ↦ record { error = None; args = args_bytes (reply_of args Aborted); bytes = failed.1 }
  ]

  reply-spelled : (v : Verdict) (k : State) → Allows station k f v (replied e reply) → IsSpelled station f reply
  reply-spelled Ignored k is = absurd (cc)
  reply-spelled Silent k is = absurd (cc)
  reply-spelled (Refused error) k is = plain (Some error) (repeated f) effect.None is
  reply-spelled (Lists command) k is = step-spelled (step_of station k.lists f command) is
  reply-spelled (Ata d) k is = ata-spelled d.answer k.sectors d.args is

-- What is read of them.

-- the four bytes of a number are those of its rest by 2 ^ 32
one-tag : (n : ℕ) → to_be_bytes w32 n ≡ to_be_bytes w32 (n % 4294967296)
one-tag n =
    let a : n / 16777216 % 256 ≡ n % 4294967296 / 16777216 % 256 = omega arith in
    let b : n / 65536 % 256 ≡ n % 4294967296 / 65536 % 256 = omega arith in
    let c : n / 256 % 256 ≡ n % 4294967296 / 256 % 256 = omega arith in
    let d : n % 256 ≡ n % 4294967296 % 256 = omega arith in
    rw (a, b, c, d) refl

flags-of : (error : Option ℕ) → IsFlags (if is_some error then 12 else 8)
flags-of None = inr (inr (inl refl))
flags-of (Some code) = inr (inr (inr refl))

no-request : (error : Option ℕ) → nat_lt (if is_some error then 12 else 8) 8 ≡ false
no-request None = refl
no-request (Some code) = refl

-- what a whole frame is, by its header
abbrev by_head : Station → Bool → Header → Class
by_head station b h = if b then (if nat_lt h.flags 8 then class.Request else if is_own station h then class.Reply else class.Other) else class.Other

module _ (station : Station) (on : IsOnWire station) (h : Header) (dst : length h.dst.0 ≡ 6) (src : length h.src.0 ≡ 6) (error : Option ℕ) where
  port-six : length (reply_port station h).0 ≡ 6
  port-six =
      let P : Bool → Type 0 = λ b. length (if b then h.dst else get_or station.ports.items 0 h.dst).0 ≡ 6 in
      elim (cases_Bool (holds station.ports.items h.dst)) [
        | inl t ↦ subst P (sym t) dst
        | inr t ↦ subst P (sym t) (on.six 0 h.dst on.ports)
      ]

  port-held : holds station.ports.items (reply_port station h) ≡ true
  port-held =
      let P : Bool → Type 0 = λ b. holds station.ports.items (if b then h.dst else get_or station.ports.items 0 h.dst) ≡ true in
      elim (cases_Bool (holds station.ports.items h.dst)) [
        | inl t ↦ subst P (sym t) t
        | inr t ↦ subst P (sym t) (holds-each station.ports.items 0 h.dst on.ports)
      ]

  abbrev Replied : Header
  Replied = reply_header h station.id (reply_port station h) error

  abbrev Read : Header
  Read = record Replied { tag = h.tag % 4294967296 }

  fits : Fits Read
  fits = record { dst = src; src = port-six; version = omega arith; flags = flags-of error; major = on.shelf; tag = omega arith }

  same-bytes : header_bytes Replied ≡ header_bytes Read
  same-bytes =
      let P : List ℕ → List ℕ = λ t. Replied.dst.0 ++ Replied.src.0 ++ (136 ∷ 162 ∷ []) ++ ((Replied.version * 16 + Replied.flags) ∷ Replied.error ∷ [])
      ++ to_be_bytes w16 Replied.id.major ++ (Replied.id.minor ∷ Replied.command ∷ []) ++ t in
      ap P (one-tag h.tag)

  own-class : (rest : List ℕ) → class_of_whole station (header_bytes Replied ++ rest) ≡ class.Reply
  own-class rest =
      let g : List ℕ = header_bytes Replied ++ rest in
      let is : head g ≡ Some Read = subst (λ (b : List ℕ). head (b ++ rest) ≡ Some Read) (sym same-bytes) (head-header_bytes Read rest fits) in
      let some : is_some (head g) ≡ true = ap (λ (o : Option Header). is_some o) is in
      let same : fields g ≡ Read = head-fields g Read is in
      let own : is_own station Read ≡ true =
      rw (eq-eqb station.id.major station.id.major refl, eq-eqb station.id.minor station.id.minor refl, port-held) refl in
      (λ i. by_head station (some i) (same i)) ∙ (λ i. if no-request error i then class.Request else if own i then class.Reply else class.Other)

-- a request

heard-flags : (station : Station) (h : Header) → is_heard station h ≡ true → nat_lt h.flags 8 ≡ true
heard-flags station h is = grind arith

module _ (station : Station) (f : List ℕ) where
  -- what is none is ignored
  pub others-ignored : (lists : Settings) → (class_of_whole station f ≡ class.Request → ⊥) → verdict station lists f ≡ Ignored
  unfolding verdict
  others-ignored lists other =
      elim (cases_Bool (is_some (head f))) [
        | inr none-there ↦ ap (λ b. if b then judged station lists (fields f) (drop 24 f) else Ignored) none-there
        | inl some-there ↦ elim (cases_Bool (is_heard station (fields f))) [
          | inr deaf ↦ rw (some-there, deaf) refl
          | inl heard ↦ absurd (other ((λ i. by_head station (some-there i) (fields f))
              ∙ ap (λ b. if b then class.Request else if is_own station (fields f) then class.Reply else class.Other) (heard-flags station (fields f) heard)))
        ]
      ]

  pub request-long : class_of_whole station f ≡ class.Request → 24 ≤ length f
  request-long is =
      elim (cases_Bool (is_some (head f))) [
        | inl some-there ↦ head-long f some-there
        | inr none-there ↦ absurd (let e : class.Other ≡ class.Request = sym (λ i. by_head station (none-there i) (fields f)) ∙ is in cc)
      ]

  -- and its reply is one of the device
  pub reply-class : (on : IsOnWire station) (e : Effect) (reply : List ℕ) (v : Verdict) (k : State) → class_of_whole station f ≡ class.Request
      → Allows station k f v (replied e reply) → class_of_whole station reply ≡ class.Reply
  unfolding spelled
  reply-class on e reply v k is allowed =
      let s = reply-spelled station f e reply v k allowed in
      let long : 24 ≤ length f = request-long is in
      let h : Header = fields f in
      let dst : length h.dst.0 ≡ 6 = length-take-le 6 (drop 0 f) (omega (arith, long)) in
      let src : length h.src.0 ≡ 6 = length-take-le 6 (drop 6 f) (omega (arith, long, length-drop 6 f)) in
      let error : Option ℕ = option_map code_of_error s.error in
      let front : List ℕ = header_bytes (Replied station on h dst src error) in
      let zeros : List ℕ = replicate (60 - length (front ++ s.args)) 0 in
      ap (class_of_whole station) (s.bytes ∙ append_assoc front s.args zeros) ∙ own-class station on h dst src error (s.args ++ zeros)
