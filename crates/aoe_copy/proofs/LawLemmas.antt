-- What follows from the steps of a copy out of a device.
use Rattle.std.proofs.Common.{ℕ, suc, ◌≡◌, ◌+◌, ◌-◌, ◌*◌, ◌<◌, ◌≤◌, cond, Bool, true, false, nat_le, List, [], ◌∷◌, ◌++◌, length, map, drop, Some, None, refl, sym, ap, ◌∙◌, arith, inl, inr, length-append}
use Rattle.std.specs.Prelude.{Contains, if◌then◌else◌, slice_index, slice_range}
use Rattle.std.proofs.lemmas.Bool.{cases_Bool, leb-true}
use Rattle.std.proofs.lemmas.List.{length-drop, length-take}
use Rattle.std.proofs.lemmas.Option.{option_and_then_some, same_Some}
use Rattle.aoe_base.specs.declared.sectors.Span.{Span}
use Rattle.aoe_block.specs.Answered.{as_asked, submissions, IsStart, IsTold, Submission}
use Rattle.aoe_block.specs.Steps.{asked, log_of, ops, outcomes, owns, ticket_at, AreSteps, Patience, Start}
use Rattle.aoe_block.specs.Steps.Step.{hears, own, sends, submits, ticks}
use Rattle.aoe_block.proofs.StepLaws.{asked-law, asked-ops, own-op, told-at, told-later, told-ticket}
use Rattle.aoe_frame.specs.declared.header.Header.{Header}
use Rattle.aoe_frame.specs.Header.{head}
use Rattle.aoe_initiator.specs.declared.op.Op.{Op}
use Rattle.aoe_initiator.specs.declared.op.Op.TheVariants as op
use Rattle.aoe_initiator.specs.declared.outcome.Outcome.TheVariants as outcome
use Rattle.aoe_initiator.specs.declared.response.Answer.{Answer}
use Rattle.aoe_initiator.specs.declared.response.Answer.TheVariants as answered
use Rattle.aoe_initiator.specs.HostLaw.{is_answered}
use Rattle.aoe_initiator.specs.HostLog.{commands}
use Rattle.aoe_initiator.specs.Response.{answer, ata_success, has_flag, is_failure, outcome_of, success}
use Rattle.aoe_copy.specs.declared.plan.Plan.{Plan}
use Rattle.aoe_copy.specs.Law.{reads, AreResponses, IsFront, IsResponse}
use Rattle.aoe_copy.specs.Plan.{reach, span_at}
use Rattle.aoe_copy.specs.Steps.{given, read_at, written, ReadLaw, ReadStep}
use Rattle.aoe_copy.specs.Window.{most_open, read_done}

abbrev AreReadSteps : Start → Plan → Patience → List ReadStep → Type 0
AreReadSteps b p w steps = AreSteps (ReadLaw b p) b w steps

-- the commands are the reads of the copy, in their order
submitted-reads : (b : Start) (p : Plan) (w : Patience) (steps : List ReadStep) → AreReadSteps b p w steps → submissions b (ops steps) ≡ reads b p (asked steps)
submitted-reads b p w [] are = refl
submitted-reads b p w (ticks answer gave_up ∷ steps) are = submitted-reads b p w steps are.0
submitted-reads b p w (submits o ∷ steps) are =
    let s : Submission = record { ticket = ticket_at b (length (ops steps)); op = o } in
    let same : s ≡ record { ticket = ticket_at b (asked steps); op = read_at p (asked steps) } =
    ap (λ (n : ℕ). record { ticket = ticket_at b n; op = o }) (sym (asked-ops steps))
    ∙ ap (λ (x : Op). record { ticket = ticket_at b (asked steps); op = x }) are.1.2.0 in
    ap (λ (l : List Submission). l ++ s ∷ []) (submitted-reads b p w steps are.0) ∙ ap (λ (x : Submission). reads b p (asked steps) ++ x ∷ []) same
submitted-reads b p w (own bytes ∷ steps) are = submitted-reads b p w steps are.0
submitted-reads b p w (sends o ∷ steps) are = submitted-reads b p w steps are.0
submitted-reads b p w (hears turn heard ∷ steps) are = submitted-reads b p w steps are.0

pub reads-law : (b : Start) (p : Plan) (w : Patience) (steps : List ReadStep) → AreReadSteps b p w steps
    → map as_asked (commands (log_of b steps)) ≡ map as_asked (commands b.log) ++ reads b p (asked steps)
reads-law b p w steps are = asked-law b steps ∙ ap (λ (l : List Submission). map as_asked (commands b.log) ++ l) (submitted-reads b p w steps are)

-- an operation of the copy reads sectors by its place
op-at : (b : Start) (p : Plan) (w : Patience) (steps : List ReadStep) → AreReadSteps b p w steps → (later earlier : List Op) (o : Op)
    → ops steps ≡ later ++ o ∷ earlier → o ≡ read_at p (length earlier)
op-at b p w [] are [] earlier o is = absurd cc
op-at b p w [] are (x ∷ later) earlier o is = absurd cc
op-at b p w (ticks answer gave_up ∷ steps) are later earlier o is = op-at b p w steps are.0 later earlier o is
op-at b p w (submits a ∷ steps) are [] earlier o is =
    let same : a ≡ o = cc in
    let rest : ops steps ≡ earlier = cc in
    sym same ∙ are.1.2.0 ∙ ap (read_at p) (asked-ops steps ∙ ap (λ (l : List Op). length l) rest)
op-at b p w (submits a ∷ steps) are (x ∷ later) earlier o is = let rest : ops steps ≡ later ++ o ∷ earlier = cc in op-at b p w steps are.0 later earlier o rest
op-at b p w (own bytes ∷ steps) are later earlier o is = op-at b p w steps are.0 later earlier o is
op-at b p w (sends x ∷ steps) are later earlier o is = op-at b p w steps are.0 later earlier o is
op-at b p w (hears turn heard ∷ steps) are later earlier o is = op-at b p w steps are.0 later earlier o is

-- no more than a window is open
pub window-law : (b : Start) (p : Plan) (w : Patience) (steps : List ReadStep) → AreReadSteps b p w steps → asked steps ≤ given steps + most_open
window-law b p w [] are = omega arith
window-law b p w (ticks answer gave_up ∷ steps) are = window-law b p w steps are.0
window-law b p w (submits o ∷ steps) are = omega (arith, are.1.2.1.few)
window-law b p w (sends o ∷ steps) are = window-law b p w steps are.0
window-law b p w (hears turn heard ∷ steps) are = window-law b p w steps are.0
window-law b p w (own bytes ∷ steps) are = omega (arith, window-law b p w steps are.0)

-- each command asks for a sector at least, and none for sectors that aren't copied
pub asked-few : (b : Start) (p : Plan) (w : Patience) (steps : List ReadStep) → 0 < p.max → AreReadSteps b p w steps
    → (asked steps ≤ reach p (asked steps)) × (reach p (asked steps) ≤ p.count)
asked-few b p w [] some are = (omega arith, omega arith)
asked-few b p w (ticks answer gave_up ∷ steps) some are = asked-few b p w steps some are.0
asked-few b p w (submits o ∷ steps) some are =
    let before = asked-few b p w steps some are.0 in
    (omega (arith, before.0, are.1.2.1.left, some), omega (arith, before.1, are.1.2.1.left))
asked-few b p w (own bytes ∷ steps) some are = asked-few b p w steps some are.0
asked-few b p w (sends o ∷ steps) some are = asked-few b p w steps some are.0
asked-few b p w (hears turn heard ∷ steps) some are = asked-few b p w steps some are.0

-- sectors came only of commands that were submitted
pub ticket-law : (b : Start) → IsStart b → (p : Plan) (w : Patience) (steps : List ReadStep) (n : ℕ) (bytes : List ℕ) → AreReadSteps b p w steps
    → Contains (outcomes steps) (read_done n bytes) → n ≤ b.host.last_ticket + asked steps
ticket-law b start p w steps n bytes are there =
    told-ticket b start steps (record { 0 = n }) (outcome.Read bytes) (told-at (ReadLaw b p) b w steps (read_done n bytes) are there refl)

-- the bytes behind the registers
long-range : (args : List ℕ) (n : ℕ) → 12 + n ≤ length args → length (slice_range args 12 (12 + n)) ≡ n
long-range args n fits = omega (arith, length-take (12 + n - 12) (drop 12 args), length-drop 12 args, fits)

-- the data of a response to a read are as long as its sectors
read-long : (span : Span) (h : Header) (args : List ℕ) (a : Answer) (bytes : List ℕ) → answer (op.Read span) h args ≡ Some a
    → outcome_of a args ≡ outcome.Read bytes → length bytes ≡ 512 * span.count
unfolding answer
read-long span h args a bytes is says = by (has_flag h.flags 0x4) is
  where
    held : (b : Bool) → nat_le (512 * span.count) (length args - 12) ≡ b → (if b then Some (answered.Data (512 * span.count)) else None) ≡ Some a
        → 12 ≤ length args → length bytes ≡ 512 * span.count
    held false fits e long = absurd cc
    held true fits e long =
        let a_is : answered.Data (512 * span.count) ≡ a = same_Some _ _ e in
        let bytes_are : slice_range args 12 (12 + 512 * span.count) ≡ bytes = cc in
        let enough = leb-true (512 * span.count) (length args - 12) fits in
        ap (λ (l : List ℕ). length l) (sym bytes_are) ∙ long-range args (512 * span.count) (omega (arith, enough, long))

    status : (b : Bool) → (if b then Some (answered.AtaError (slice_index args 3) (slice_index args 1)) else ata_success (op.Read span) (length args - 12))
        ≡ Some a
        → 12 ≤ length args → length bytes ≡ 512 * span.count
    status true e long = absurd (let a_is : answered.AtaError (slice_index args 3) (slice_index args 1) ≡ a = same_Some _ _ e in cc)
    status false e long = held (nat_le (512 * span.count) (length args - 12)) refl e long

    registers : (b : Bool) → nat_le 12 (length args) ≡ b
        → (if b then (if is_failure (slice_index args 3) then Some (answered.AtaError (slice_index args 3) (slice_index args 1)) else ata_success (op.Read span)
        (length args - 12)) else None) ≡ Some a
        → length bytes ≡ 512 * span.count
    registers false there e = absurd cc
    registers true there e = status (is_failure (slice_index args 3)) e (leb-true 12 (length args) there)

    by : (b : Bool) → (if b then Some (answered.AoeError h.error) else success (op.Read span) args) ≡ Some a → length bytes ≡ 512 * span.count
    by true e = absurd (let a_is : answered.AoeError h.error ≡ a = same_Some _ _ e in cc)
    by false e = registers (nat_le 12 (length args)) refl e

-- what an earlier step of the copy followed
are-before : (b : Start) (p : Plan) (w : Patience) (later earlier : List ReadStep) → AreReadSteps b p w (later ++ earlier) → AreReadSteps b p w earlier
are-before b p w [] earlier are = are
are-before b p w (step ∷ later) earlier are = are-before b p w later earlier are.0

-- a response to a command of the copy has its sectors
response : (b : Start) → IsStart b → (p : Plan) (w : Patience) (steps : List ReadStep) (k : ℕ) (bytes : List ℕ) → AreReadSteps b p w steps
    → Contains (outcomes steps) (read_done (suc (b.host.last_ticket + k)) bytes) → IsResponse b p steps k bytes
response b start p w steps k bytes are there =
    let t : IsTold b steps (ticket_at b k) (outcome.Read bytes) =
    told-at (ReadLaw b p) b w steps (read_done (suc (b.host.last_ticket + k)) bytes) are there refl in
    let a = t.answers in
    let mine = own-op b start t.earlier a.command k a.there (a.ticket ∙ t.ticket_is) in
    let all : AreReadSteps b p w (t.later ++ hears _ _ ∷ t.earlier) = rw t.order at are in
    let before = (are-before b p w t.later (hears _ _ ∷ t.earlier) all).0 in
    let asks_is : a.command.op ≡ read_at p k = op-at b p w t.earlier before mine.0.later mine.0.earlier a.command.op mine.0.order ∙ ap (read_at p) mine.1 in
    let says = sym a.says ∙ t.says_so in
    record {
      told = t;
      asks = asks_is;
      whole = option_and_then_some (λ (x : Header). cond (is_answered a.host a.command x) (answer a.command.op x (drop 24 t.frame)) None)
          (head t.frame) a.answer a.answers
          (λ x is found.
          elim (cases_Bool (is_answered a.host a.command x)) [
            | inl own_is ↦ read-long (span_at p k) x (drop 24 t.frame) a.answer bytes (rw (own_is, asks_is) at found) says
            | inr other ↦ absurd (let none = rw other at found in cc)
          ]);
    }

response-later : {b : Start} {p : Plan} {steps : List ReadStep} {k : ℕ} {bytes : List ℕ} (step : ReadStep) → IsResponse b p steps k bytes
    → IsResponse b p (step ∷ steps) k bytes
response-later step r = record { told = told-later step r.told; asks = r.asks; whole = r.whole }

responses-later : (b : Start) (p : Plan) (steps : List ReadStep) (step : ReadStep) (parts : List (List ℕ)) → AreResponses b p steps parts
    → AreResponses b p (step ∷ steps) parts
responses-later b p steps step [] each = tt
responses-later b p steps step (bytes ∷ earlier) each = (responses-later b p steps step earlier each.0, response-later step each.1)

-- what the sink took is a front of the sectors
pub front-law : (b : Start) → IsStart b → (p : Plan) (w : Patience) (steps : List ReadStep) → AreReadSteps b p w steps → IsFront b p steps
front-law b start p w [] are = record { long = omega arith; each = tt }
front-law b start p w (ticks answer gave_up ∷ steps) are =
    let f = front-law b start p w steps are.0 in
    record { long = f.long; each = responses-later b p steps (ticks answer gave_up) (owns steps) f.each }
front-law b start p w (submits o ∷ steps) are =
    let f = front-law b start p w steps are.0 in
    record { long = f.long; each = responses-later b p steps (submits o) (owns steps) f.each }
front-law b start p w (sends o ∷ steps) are =
    let f = front-law b start p w steps are.0 in
    record { long = f.long; each = responses-later b p steps (sends o) (owns steps) f.each }
front-law b start p w (hears turn heard ∷ steps) are =
    let f = front-law b start p w steps are.0 in
    record { long = f.long; each = responses-later b p steps (hears turn heard) (owns steps) f.each }
front-law b start p w (own bytes ∷ steps) are =
    let f = front-law b start p w steps are.0 in
    let r = response b start p w steps (given steps) bytes are.0 are.1.1 in
    record {
      long = omega (arith, length-append (written steps) bytes, f.long, r.whole);
      each = (responses-later b p steps (own bytes) (owns steps) f.each, response-later (own bytes) r);
    }
