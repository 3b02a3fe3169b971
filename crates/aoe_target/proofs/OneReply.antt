-- A reply tells what became of its request: the law allows no two effects with the same reply.
use Rattle.std.proofs.Common.{◌≡◌, ◌<◌, ◌⊎◌, ◌-◌, ℕ, List, [], ◌∷◌, ◌++◌, length, replicate, Option, Some, None, inl, inr, refl, sym, ap, ◌∙◌, append_assoc, arith}
use Rattle.std.specs.Prelude.{slice_index}
use Rattle.std.proofs.lemmas.List.{append_cancel_left}
use Rattle.aoe_base.specs.declared.sectors.Span.{Span}
use Rattle.aoe_base.specs.declared.refusal.AoeError.{AoeError}
use Rattle.aoe_base.specs.declared.refusal.AoeError.TheVariants.{DeviceUnavailable}
use Rattle.aoe_frame.specs.Header.{fields}
use Rattle.aoe_frame.specs.declared.header.Header.{Header}
use Rattle.aoe_ata.specs.Args.{args_bytes}
use Rattle.aoe_ata.specs.Reply.{reply_of, status_of}
use Rattle.aoe_ata.specs.declared.args.AtaArgs.{AtaArgs}
use Rattle.aoe_ata.specs.declared.decision.AtaAnswer.{AtaAnswer}
use Rattle.aoe_ata.specs.declared.decision.AtaAnswer.TheVariants.{Abort, NotFound, Page, Mode, Give, Put, Verify, Sync}
use Rattle.aoe_ata.specs.declared.reply.AtaOutcome.{AtaOutcome}
use Rattle.aoe_ata.specs.declared.reply.AtaOutcome.TheVariants.{Done, Aborted, Uncorrectable}
use Rattle.aoe_lists.specs.Step.{Step}
use Rattle.aoe_lists.specs.Step as step
use Rattle.aoe_target.specs.Device.{State}
use Rattle.aoe_target.specs.declared.station.Station.{Station}
use Rattle.aoe_target.specs.declared.heard.Effect.{Effect}
use Rattle.aoe_target.specs.declared.heard.Effect.TheVariants as effect
use Rattle.aoe_target.specs.declared.verdict.Verdict.{Verdict}
use Rattle.aoe_target.specs.declared.verdict.Verdict.TheVariants.{Ignored, Silent, Refused, Lists, Ata}
use Rattle.aoe_target.specs.Reply.{reply_head, reply_port, spelled, repeated, ata_reply, data_reply, data_of}
use Rattle.aoe_target.specs.Sectors.{Sectors}
use Rattle.aoe_target.specs.Law.{replied, Allows, AllowsAta, AllowsStep, AnswersSync, AnswersWrite, Edits, Gives, Verifies, step_of}

pub same-reply : (e d : Effect) (a b : List ℕ) → replied e a ≡ replied d b → a ≡ b
same-reply e d a b is = cc

-- the effects that the law allows, each with its reply

pub gives-is : (e : Effect) (station : Station) (k : Option Sectors) (h : Header) (args : AtaArgs) (span : Span) (reply : List ℕ)
    → Gives station k h args span e reply
    → ((e ≡ effect.None) × Gives station k h args span effect.None reply) ⊎ ((e ≡ effect.ReadFault) × (reply ≡ ata_reply station h args Uncorrectable))
gives-is effect.None station k h args span reply g = inl (refl, g)
gives-is (effect.Wrote s) station k h args span reply g = absurd g
gives-is effect.Synced station k h args span reply g = absurd g
gives-is effect.Edited station k h args span reply g = absurd g
gives-is (effect.WriteFault s) station k h args span reply g = absurd g
gives-is effect.ReadFault station k h args span reply g = inr (refl, g)
gives-is effect.SyncFault station k h args span reply g = absurd g
gives-is effect.EditFault station k h args span reply g = absurd g

pub verifies-is : (e : Effect) (station : Station) (h : Header) (args : AtaArgs) (reply : List ℕ) → Verifies station h args e reply
    → ((e ≡ effect.None) × (reply ≡ ata_reply station h args Done)) ⊎ ((e ≡ effect.ReadFault) × (reply ≡ ata_reply station h args Uncorrectable))
verifies-is effect.None station h args reply g = inl (refl, g)
verifies-is (effect.Wrote s) station h args reply g = absurd g
verifies-is effect.Synced station h args reply g = absurd g
verifies-is effect.Edited station h args reply g = absurd g
verifies-is (effect.WriteFault s) station h args reply g = absurd g
verifies-is effect.ReadFault station h args reply g = inr (refl, g)
verifies-is effect.SyncFault station h args reply g = absurd g
verifies-is effect.EditFault station h args reply g = absurd g

pub writes-is : (e : Effect) (station : Station) (h : Header) (args : AtaArgs) (span : Span) (reply : List ℕ) → AnswersWrite station h args span e reply
    → ((e ≡ effect.Wrote span) × (reply ≡ ata_reply station h args Done)) ⊎ ((e ≡ effect.WriteFault span) × (reply ≡ ata_reply station h args Aborted))
writes-is effect.None station h args span reply g = absurd g
writes-is (effect.Wrote s) station h args span reply g = inl (ap effect.Wrote g.0, g.1)
writes-is effect.Synced station h args span reply g = absurd g
writes-is effect.Edited station h args span reply g = absurd g
writes-is (effect.WriteFault s) station h args span reply g = inr (ap effect.WriteFault g.0, g.1)
writes-is effect.ReadFault station h args span reply g = absurd g
writes-is effect.SyncFault station h args span reply g = absurd g
writes-is effect.EditFault station h args span reply g = absurd g

pub syncs-is : (e : Effect) (station : Station) (h : Header) (args : AtaArgs) (reply : List ℕ) → AnswersSync station h args e reply
    → ((e ≡ effect.Synced) × (reply ≡ ata_reply station h args Done)) ⊎ ((e ≡ effect.SyncFault) × (reply ≡ ata_reply station h args Aborted))
syncs-is effect.None station h args reply g = absurd g
syncs-is (effect.Wrote s) station h args reply g = absurd g
syncs-is effect.Synced station h args reply g = inl (refl, g)
syncs-is effect.Edited station h args reply g = absurd g
syncs-is (effect.WriteFault s) station h args reply g = absurd g
syncs-is effect.ReadFault station h args reply g = absurd g
syncs-is effect.SyncFault station h args reply g = inr (refl, g)
syncs-is effect.EditFault station h args reply g = absurd g

pub edits-is : (e : Effect) (station : Station) (f args reply : List ℕ) → Edits station f args e reply
    → ((e ≡ effect.Edited) × (reply ≡ spelled station (fields f) None args))
    ⊎ ((e ≡ effect.EditFault) × (reply ≡ spelled station (fields f) (Some DeviceUnavailable) (repeated f)))
edits-is effect.None station f args reply g = absurd g
edits-is (effect.Wrote s) station f args reply g = absurd g
edits-is effect.Synced station f args reply g = absurd g
edits-is effect.Edited station f args reply g = inl (refl, g)
edits-is (effect.WriteFault s) station f args reply g = absurd g
edits-is effect.ReadFault station f args reply g = absurd g
edits-is effect.SyncFault station f args reply g = absurd g
edits-is effect.EditFault station f args reply g = inr (refl, g)

-- replies that differ

head-cut : (h a b z w : List ℕ) → (h ++ a) ++ z ≡ (h ++ b) ++ w → a ++ z ≡ b ++ w
head-cut h a b z w e = append_cancel_left h (a ++ z) (b ++ w) (sym (append_assoc h a z) ∙ e ∙ append_assoc h b w)

apart : (m n : ℕ) → m < n → m ≡ n → ⊥
apart m n less e = omega arith

-- by the status register
pub ata-apart : (station : Station) (h : Header) (args : AtaArgs) (o p : AtaOutcome) → (status_of o ≡ status_of p → ⊥)
    → ata_reply station h args o ≡ ata_reply station h args p → ⊥
unfolding spelled
ata-apart station h args o p other e =
    let a : List ℕ = args_bytes (reply_of args o) in
    let b : List ℕ = args_bytes (reply_of args p) in
    let n : ℕ = 60 - length (reply_head station h None ++ a) in
    let m : ℕ = 60 - length (reply_head station h None ++ b) in
    other (ap (λ (l : List ℕ). slice_index l 3) (head-cut (reply_head station h None) a b (replicate n 0) (replicate m 0) e))

pub data-apart : (station : Station) (h : Header) (args : AtaArgs) (bytes : List ℕ) → data_reply station h args bytes ≡ ata_reply station h args Uncorrectable
    → ⊥
unfolding spelled
data-apart station h args bytes e =
    let a : List ℕ = args_bytes (reply_of args Done) ++ bytes in
    let b : List ℕ = args_bytes (reply_of args Uncorrectable) in
    let n : ℕ = 60 - length (reply_head station h None ++ a) in
    let m : ℕ = 60 - length (reply_head station h None ++ b) in
    let both : a ++ replicate n 0 ≡ b ++ replicate m 0 = head-cut (reply_head station h None) a b (replicate n 0) (replicate m 0) e in
    apart 64 65 (omega arith) (ap (λ (l : List ℕ). slice_index l 3) both)

-- by the error flag
pub edit-apart : (station : Station) (h : Header) (error : AoeError) (args other : List ℕ) → spelled station h None args ≡ spelled station h (Some error) other
    → ⊥
unfolding spelled
edit-apart station h error args other e =
    let n : ℕ = 60 - length (reply_head station h None ++ args) in
    let m : ℕ = 60 - length (reply_head station h (Some error) ++ other) in
    apart 24 28 (omega arith) (flagged (h.src.0 ++ (reply_port station h).0) _ _ _ _ _ 24 28 args other (replicate n 0) (replicate m 0) e)
  where
    flagged : (p m n g x y : List ℕ) (f v : ℕ) (a b z w : List ℕ)
        → ((((((p ++ (136 ∷ 162 ∷ [])) ++ (f ∷ x)) ++ m) ++ n) ++ g) ++ a) ++ z ≡ ((((((p ++ (136 ∷ 162 ∷ [])) ++ (v ∷ y)) ++ m) ++ n) ++ g) ++ b) ++ w
        → f ≡ v
    flagged p m n g x y f v a b z w e =
        let whole : (l c r : List ℕ) → ((((((p ++ (136 ∷ 162 ∷ [])) ++ l) ++ m) ++ n) ++ g) ++ c) ++ r ≡ p ++
        (136 ∷ 162 ∷ (l ++ (m ++ (n ++ (g ++ (c ++ r)))))) =
        λ (l c r : List ℕ). simp append_assoc in
        let one : List ℕ = 136 ∷ 162 ∷ ((f ∷ x) ++ (m ++ (n ++ (g ++ (a ++ z))))) in
        let two : List ℕ = 136 ∷ 162 ∷ ((v ∷ y) ++ (m ++ (n ++ (g ++ (b ++ w))))) in
        let same : one ≡ two = append_cancel_left p one two (sym (whole (f ∷ x) a z) ∙ e ∙ whole (v ∷ y) b w) in
        ap (λ (l : List ℕ). slice_index l 2) same

-- no two effects

module _ (e d : Effect) (reply : List ℕ) where
  ata-one : (answer : AtaAnswer) (station : Station) (k : Option Sectors) (h : Header) (args : AtaArgs) → AllowsAta station k h args answer (replied e reply)
      → AllowsAta station k h args answer (replied d reply) → e ≡ d
  ata-one Abort station k h args one two = (cc)
  ata-one NotFound station k h args one two = (cc)
  ata-one Page station k h args one two = (cc)
  ata-one Mode station k h args one two = (cc)
  ata-one (Give span) station k h args one two = elim (gives-is e station k h args span reply one) [
    | inl a ↦ elim (gives-is d station k h args span reply two) [
      | inl b ↦ a.0 ∙ sym b.0
      | inr b ↦ absurd (data-apart station h args (data_of span reply) (sym a.1.1 ∙ b.1))
    ]
    | inr a ↦ elim (gives-is d station k h args span reply two) [
      | inl b ↦ absurd (data-apart station h args (data_of span reply) (sym b.1.1 ∙ a.1))
      | inr b ↦ a.0 ∙ sym b.0
    ]
  ]
  ata-one (Verify span) station k h args one two = elim (verifies-is e station h args reply one) [
    | inl a ↦ elim (verifies-is d station h args reply two) [
      | inl b ↦ a.0 ∙ sym b.0
      | inr b ↦ absurd (ata-apart station h args Done Uncorrectable (λ q. (omega arith)) (sym a.1 ∙ b.1))
    ]
    | inr a ↦ elim (verifies-is d station h args reply two) [
      | inl b ↦ absurd (ata-apart station h args Done Uncorrectable (λ q. (omega arith)) (sym b.1 ∙ a.1))
      | inr b ↦ a.0 ∙ sym b.0
    ]
  ]
  ata-one (Put span) station k h args one two = elim (writes-is e station h args span reply one) [
    | inl a ↦ elim (writes-is d station h args span reply two) [
      | inl b ↦ a.0 ∙ sym b.0
      | inr b ↦ absurd (ata-apart station h args Done Aborted (λ q. (omega arith)) (sym a.1 ∙ b.1))
    ]
    | inr a ↦ elim (writes-is d station h args span reply two) [
      | inl b ↦ absurd (ata-apart station h args Done Aborted (λ q. (omega arith)) (sym b.1 ∙ a.1))
      | inr b ↦ a.0 ∙ sym b.0
    ]
  ]
  ata-one Sync station k h args one two = elim (syncs-is e station h args reply one) [
    | inl a ↦ elim (syncs-is d station h args reply two) [
      | inl b ↦ a.0 ∙ sym b.0
      | inr b ↦ absurd (ata-apart station h args Done Aborted (λ q. (omega arith)) (sym a.1 ∙ b.1))
    ]
    | inr a ↦ elim (syncs-is d station h args reply two) [
      | inl b ↦ absurd (ata-apart station h args Done Aborted (λ q. (omega arith)) (sym b.1 ∙ a.1))
      | inr b ↦ a.0 ∙ sym b.0
    ]
  ]

  step-one : (s : Step) (station : Station) (f : List ℕ) → AllowsStep station f s (replied e reply) → AllowsStep station f s (replied d reply) → e ≡ d
  step-one step.Silent station f one two = absurd (cc)
  step-one (step.Reply error args) station f one two = (cc)
  step-one (step.Change next args) station f one two = elim (edits-is e station f args reply one) [
    | inl a ↦ elim (edits-is d station f args reply two) [
      | inl b ↦ a.0 ∙ sym b.0
      | inr b ↦ absurd (edit-apart station (fields f) DeviceUnavailable args (repeated f) (sym a.1 ∙ b.1))
    ]
    | inr a ↦ elim (edits-is d station f args reply two) [
      | inl b ↦ absurd (edit-apart station (fields f) DeviceUnavailable args (repeated f) (sym b.1 ∙ a.1))
      | inr b ↦ a.0 ∙ sym b.0
    ]
  ]

  pub allows-one : (v : Verdict) (station : Station) (k : State) (f : List ℕ) → Allows station k f v (replied e reply)
      → Allows station k f v (replied d reply) → e ≡ d
  allows-one Ignored station k f one two = absurd (cc)
  allows-one Silent station k f one two = absurd (cc)
  allows-one (Refused error) station k f one two = (cc)
  allows-one (Lists command) station k f one two = step-one (step_of station k.lists f command) station f one two
  allows-one (Ata a) station k f one two = ata-one a.answer station k.sectors (fields f) a.args one two
