-- What a target reads in the frame of a request.
use Rattle.std.proofs.Common.{Result, Ok, Err, if◌then◌else◌, not, ◌==◌, ℕ, ◌+◌, ◌-◌, ◌*◌, ◌/◌, ◌%◌, ◌^◌, ◌<◌, ◌≡◌, ◌≢◌, Bool, true, false, List, ◌++◌, length, drop, Some, refl, sym, subst, ap, ◌∙◌, arith, append_assoc}
use Rattle.std.specs.Prelude.{replicate}
use Rattle.std.proofs.lemmas.Grind.{common_steps}
use Rattle.std.proofs.lemmas.List.{drop_at, length-append, take_at}
use Rattle.std.proofs.lemmas.Bool.Decides.{nat_tests}
use Rattle.std.proofs.lemmas.Option.{cond_some}
use Rattle.aoe_ata.specs.Args.{args_bytes, registers}
use Rattle.aoe_ata.specs.Command.{command_of}
use Rattle.aoe_ata.specs.Decision.{answer_of, decision, written}
use Rattle.aoe_ata.specs.declared.decision.AtaAnswer.{AtaAnswer}
use Rattle.aoe_ata.specs.declared.decision.AtaAnswer.TheVariants.{Page, Put, Sync}
use Rattle.aoe_ata.specs.declared.decision.AtaDecision.{AtaDecision}
use Rattle.aoe_base.specs.declared.refusal.AoeError.{AoeError}
use Rattle.aoe_base.specs.declared.refusal.AoeError.TheVariants.{BadArgument, TargetIsReserved, UnrecognizedCommand, UnsupportedVersion}
use Rattle.aoe_lists.specs.Settings.{may_use, Settings}
use Rattle.aoe_target.specs.declared.station.Station.{Station}
use Rattle.aoe_target.specs.declared.verdict.ListCommand.{ListCommand}
use Rattle.aoe_target.specs.declared.verdict.ListCommand.TheVariants.{Config as ConfigStep, Masks as MaskStep, Reserves as ReserveStep}
use Rattle.aoe_target.specs.declared.verdict.Verdict.{Verdict}
use Rattle.aoe_target.specs.declared.verdict.Verdict.TheVariants.{Ata, Ignored, Lists, Refused, Silent}
use Rattle.aoe_history.specs.Conversation.{asked_for, HasSectors}
use Rattle.aoe_target.specs.Verdict.{as_marked, decided, is_heard, judged, verdict}
use Rattle.aoe_ata.specs.declared.args.AtaArgs.{AtaArgs}
use Rattle.aoe_base.specs.declared.address.Mac.{Mac}
use Rattle.aoe_base.specs.declared.address.TargetId.{TargetId}
use Rattle.aoe_frame.specs.declared.header.Header.{Header}
use Rattle.aoe_frame.specs.Header.{head, header_bytes, padded, Fits}
use Rattle.aoe_frame.proofs.HeaderLemmas.{head-header_bytes}
use Rattle.aoe_initiator.specs.declared.op.FlushCommand.{FlushCommand}
use Rattle.aoe_initiator.specs.declared.op.FlushCommand.TheVariants.{Cache, CacheExt}
use Rattle.aoe_initiator.specs.declared.op.Op.{Op}
use Rattle.aoe_initiator.specs.declared.op.Op.TheVariants.{Read, Write, Flush, Identify}
use Rattle.aoe_initiator.specs.Op.{command_of as command, span_of}
use Rattle.aoe_initiator.specs.Request.{arguments, flush_registers, registers_of, request, request_header, CanSpell}

header-length : (h : Header) → Fits h → length (header_bytes h) ≡ 24
header-length h fits = let d = fits.dst in let s = fits.src in simp length-append (omega arith)

-- the zeros behind so many bytes
abbrev pub zeros_behind : List ℕ → List ℕ
zeros_behind f = replicate (60 - length f) 0

padded-parts : (h : Header) (args : List ℕ) → padded (header_bytes h ++ args) ≡ header_bytes h ++ (args ++ zeros_behind (header_bytes h ++ args))
padded-parts h args = append_assoc (header_bytes h) args (zeros_behind (header_bytes h ++ args))

pub padded-head : (h : Header) (args : List ℕ) → Fits h → head (padded (header_bytes h ++ args)) ≡ Some h
padded-head h args fits = ap head (padded-parts h args) ∙ head-header_bytes h (args ++ zeros_behind (header_bytes h ++ args)) fits

pub padded-rest : (h : Header) (args : List ℕ) → Fits h → drop 24 (padded (header_bytes h ++ args)) ≡ args ++ zeros_behind (header_bytes h ++ args)
padded-rest h args fits = ap (drop 24) (padded-parts h args)
    ∙ drop_at (header_bytes h) (args ++ zeros_behind (header_bytes h ++ args)) 24 (header-length h fits)

-- REGISTERS

pub registers-are : (a : AtaArgs) (rest : List ℕ) → a.lba < 2 ^ 48 → registers (args_bytes a ++ rest) ≡ a
registers-are a rest lt = grind (arith, common_steps)

-- VERDICTS

-- a frame is judged by its header
judged-by : (station : Station) (lists : Settings) (f : List ℕ) (h : Header) (v : Verdict) → head f ≡ Some h → verdict station lists f ≡ v
    → judged station lists h (drop 24 f) ≡ v
unfolding verdict
judged-by station lists f h v is e = let x = cond_some _ _ _ is in subst (λ y. judged station lists y (drop 24 f) ≡ v) x.1 (rw x.0 at e)

by-checks : (heard admitted version ata config masks reserves free : Bool) (v : Verdict) (d : AtaDecision) →
    (if not heard then Ignored else if not admitted then Silent else if not version then Refused UnsupportedVersion
    else if ata then (if not free then Refused TargetIsReserved else v) else if config then Lists ConfigStep else if masks then Lists MaskStep
    else if reserves then Lists ReserveStep else Refused UnrecognizedCommand) ≡ Ata d → (heard ≡ true) × (ata ≡ true) × (v ≡ Ata d)
by-checks heard admitted version ata config masks reserves free v d e = grind arith

-- no verdict on an ATA command is a step of the lists
no-step : (heard admitted version free mark : Bool) (r : Result AtaDecision AoeError) (c : ListCommand) →
    (if not heard then Ignored else if not admitted then Silent else if not version then Refused UnsupportedVersion
    else if not free then Refused TargetIsReserved else decided mark r) ≡ Lists c → ⊥
no-step heard admitted version free mark (Ok d) c e = grind arith
no-step heard admitted version free mark (Err error) c e = grind arith

ok-if : (mark b : Bool) (x d : AtaDecision) → decided mark (if b then Ok x else Err BadArgument) ≡ Ata d → d ≡ record x { answer = as_marked mark x.answer }
ok-if mark true x d e = cc
ok-if mark false x d e = absurd cc

-- what a device that isn't read-only answers
pub unmarked : (answer : AtaAnswer) → as_marked false answer ≡ answer
unmarked (Put span) = refl
unmarked _ = refl

-- what a verdict on an ATA command comes of
pub record ComesOf (station : Station) (read_only : Bool) (h : Header) (args : List ℕ) (d : AtaDecision) : Type 0 where
  pub heard : is_heard station h ≡ true
  pub ata : (h.command == 0) ≡ true
  pub registers_are : d.args ≡ registers args
  pub answer_is : d.answer ≡ as_marked read_only (answer_of station.sectors (command_of (registers args)))

pub comes-of : (station : Station) (lists : Settings) (f : List ℕ) (h : Header) (d : AtaDecision) → head f ≡ Some h → verdict station lists f ≡ Ata d
    → ComesOf station lists.read_only h (drop 24 f) d
unfolding decision
comes-of station lists f h d is e =
    let c = by-checks _ _ _ _ _ _ _ (may_use lists h.src) (decided lists.read_only (decision station.sectors station.max (drop 24 f))) d
    (judged-by station lists f h (Ata d) is e) in
    let k = ok-if lists.read_only _ _ d c.2 in
    record { heard = c.0; ata = c.1; registers_are = ap (λ (x : AtaDecision). x.args) k; answer_is = ap (λ (x : AtaDecision). x.answer) k }

-- WHAT A REQUEST ASKS

zero-no : (n : ℕ) → n ≢ 0 → (n == 0) ≡ false
zero-no n e = grind (arith, nat_tests)

answer-by : (total : ℕ) (args bytes : List ℕ) (a : AtaArgs) (answer : AtaAnswer) → args ≡ args_bytes a ++ bytes → a.lba < 2 ^ 48
    → answer_of total (command_of a) ≡ answer
    → answer_of total (command_of (registers args)) ≡ answer
answer-by total args bytes a answer is lt e = subst (λ r. answer_of total (command_of r) ≡ answer) (sym (ap registers is ∙ registers-are a bytes lt)) e

-- both flush commands ask for a flush
flush-as : (flush : FlushCommand) (total : ℕ) (args zeros : List ℕ) → args ≡ args_bytes (flush_registers flush) ++ zeros
    → answer_of total (command_of (registers args)) ≡ Sync
flush-as Cache total args zeros is = answer-by total args zeros (registers_of 0 0xe7 (record { at = 0; count = 0 })) Sync is (omega arith) refl
flush-as CacheExt total args zeros is = answer-by total args zeros (registers_of 0x40 0xea (record { at = 0; count = 0 })) Sync is (omega arith) refl

asked-as : (flush : FlushCommand) (total : ℕ) (op : Op) (args zeros : List ℕ) → CanSpell op → HasSectors op → (command op == 0) ≡ true
    → args ≡ arguments flush op ++ zeros
    → answer_of total (command_of (registers args)) ≡ asked_for total op
asked-as flush total (Read span) args zeros can some c is = answer-by total args zeros (registers_of 0x40 0x24 span) _ is can.0 (rw (zero-no span.count some) refl)
asked-as flush total (Write at bytes) args zeros can some c is =
    answer-by total args (bytes ++ zeros) (registers_of 0x41 0x34 (span_of (Write at bytes))) _ is can.0 (rw (zero-no (length bytes / 512) some.0) refl)
asked-as flush total Flush args zeros can some c is = flush-as flush total args zeros is
asked-as flush total Identify args zeros can some c is = answer-by total args zeros (registers_of 0 0xec (record { at = 0; count = 1 })) Page is (omega arith) refl
asked-as flush total _ args zeros can some c is = absurd (cc)

-- the data of a write are those that it was asked for
written-as : (flush : FlushCommand) (at : ℕ) (bytes zeros : List ℕ) → length bytes % 512 ≡ 0
    → written (arguments flush (Write at bytes) ++ zeros) (span_of (Write at bytes)) ≡ bytes
written-as flush at bytes zeros whole = take_at bytes zeros (12 + 512 * (length bytes / 512) - 12) (omega arith)

pub no-list-step : (station : Station) (lists : Settings) (f : List ℕ) (h : Header) (c : ListCommand) → head f ≡ Some h → (h.command == 0) ≡ true
    → verdict station lists f ≡ Lists c → ⊥
no-list-step station lists f h c is ata e =
    no-step _ _ _ (may_use lists h.src) lists.read_only (decision station.sectors station.max (drop 24 f)) c
    (rw ata at (judged-by station lists f h (Lists c) is e))

-- A REQUEST AT A TARGET

pub request-head : (flush : FlushCommand) (op : Op) (id : TargetId) (remote local : Mac) (tag : ℕ) → Fits (request_header op id remote local tag)
    → head (request flush op id remote local tag) ≡ Some (request_header op id remote local tag)
unfolding request
request-head flush op id remote local tag fits = padded-head (request_header op id remote local tag) (arguments flush op) fits

request-rest : (flush : FlushCommand) (op : Op) (id : TargetId) (remote local : Mac) (tag : ℕ) → Fits (request_header op id remote local tag)
    → (zeros : List ℕ) × (drop 24 (request flush op id remote local tag) ≡ arguments flush op ++ zeros)
unfolding request
request-rest flush op id remote local tag fits = (_, padded-rest (request_header op id remote local tag) (arguments flush op) fits)

pub request-asks : (flush : FlushCommand) (op : Op) (id : TargetId) (remote local : Mac) (tag : ℕ) (station : Station) (lists : Settings) (d : AtaDecision)
    → CanSpell op → HasSectors op
    → Fits (request_header op id remote local tag) → verdict station lists (request flush op id remote local tag) ≡ Ata d
    → d.answer ≡ as_marked lists.read_only (asked_for station.sectors op)
request-asks flush op id remote local tag station lists d can some fits e =
    let c = comes-of station lists _ _ d (request-head flush op id remote local tag fits) e in
    let r = request-rest flush op id remote local tag fits in
    c.answer_is ∙ ap (as_marked lists.read_only) (asked-as flush station.sectors op _ r.0 can some c.ata r.1)

pub request-writes : (flush : FlushCommand) (at : ℕ) (bytes : List ℕ) (id : TargetId) (remote local : Mac) (tag : ℕ) → at < 2 ^ 48 → length bytes % 512 ≡ 0
    → Fits (request_header (Write at bytes) id remote local tag)
    → written (drop 24 (request flush (Write at bytes) id remote local tag)) (span_of (Write at bytes)) ≡ bytes
request-writes flush at bytes id remote local tag lt whole fits =
    let r = request-rest flush (Write at bytes) id remote local tag fits in
    ap (λ (l : List ℕ). written l (span_of (Write at bytes))) r.1 ∙ written-as flush at bytes r.0 whole
