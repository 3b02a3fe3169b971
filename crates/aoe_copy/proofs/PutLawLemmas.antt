-- What follows from the steps of a copy into a device.
use Rattle.std.proofs.Common.{ℕ, suc, ◌≡◌, ◌+◌, ◌≤◌, cond, Bool, true, false, nat_le, List, [], ◌∷◌, ◌++◌, length, map, drop, Some, None, refl, sym, ap, ◌∙◌, arith, inl, inr}
use Rattle.std.specs.Prelude.{All, Contains, if◌then◌else◌, slice_index}
use Rattle.std.proofs.lemmas.Bool.{cases_Bool, not-false}
use Rattle.std.proofs.lemmas.List.Elements.{All-contains, Contains-append_left, Contains-append_right}
use Rattle.std.proofs.lemmas.Option.{option_and_then_some, same_Some}
use Rattle.aoe_base.proofs.CountLemmas.{none-all}
use Rattle.aoe_base.specs.declared.counted.Ticket.{Ticket}
use Rattle.aoe_block.specs.Answered.{as_asked, submissions, IsDone, IsTold, Submission}
use Rattle.aoe_block.specs.Steps.{asked, is_open, is_success, log_of, new_start, open_of, ops, owns, ticket_at, AreSteps, GoesOn, Patience, Start}
use Rattle.aoe_block.specs.Steps.Step.{hears, own, sends, submits, ticks}
use Rattle.aoe_block.proofs.DoneLaws.{done-at}
use Rattle.aoe_block.proofs.OpenLemmas.{open-ended, open-frames, open-heard, open-submits}
use Rattle.aoe_block.proofs.StepLaws.{asked-law}
use Rattle.aoe_frame.specs.declared.header.Header.{Header}
use Rattle.aoe_frame.specs.Header.{head}
use Rattle.aoe_initiator.proofs.ListLemmas.{Contains-map_from}
use Rattle.aoe_initiator.specs.declared.op.Op.{Op}
use Rattle.aoe_initiator.specs.declared.op.Op.TheVariants as op
use Rattle.aoe_initiator.specs.declared.response.Answer.{Answer}
use Rattle.aoe_initiator.specs.declared.response.Answer.TheVariants as answered
use Rattle.aoe_initiator.specs.Response.{answer, has_flag, is_failure, outcome_of, success}
use Rattle.aoe_initiator.specs.declared.outcome.Outcome.{Outcome}
use Rattle.aoe_initiator.specs.declared.outcome.Outcome.TheVariants as outcome
use Rattle.aoe_initiator.specs.Host.{Host}
use Rattle.aoe_initiator.specs.HostLaw.{is_answered}
use Rattle.aoe_initiator.specs.HostLog.{commands, HostCommand}
use Rattle.aoe_initiator.specs.HostLog.Event.{Advances}
use Rattle.aoe_copy.specs.declared.plan.Plan.{Plan}
use Rattle.aoe_copy.specs.declared.putting.Stage.{Stage}
use Rattle.aoe_copy.specs.declared.putting.Stage.TheVariants as stage
use Rattle.aoe_copy.specs.PutLaw.{flush_ops, write_ops, writes, AreAcknowledged, AreParts, IsWritten}
use Rattle.aoe_copy.specs.Checking.{count_more}
use Rattle.aoe_copy.specs.PutSteps.{count_of, has_flush, pieces, stage_fed, stage_of, write_after, Fed, PutLaw, PutStep}
use Rattle.aoe_copy.specs.PutSteps.Fed.{ends, exceeds}
use Rattle.aoe_copy.specs.Window.{most_open}
use Rattle.aoe_copy.proofs.PutStepLemmas.{stage-own}
use Rattle.aoe_copy.proofs.PutTurnLemmas.{fed-unflushed}

module _ (b : Start) (p : Plan) (flush : Bool) (w : Patience) where
  abbrev pub ArePutSteps : List PutStep → Type 0
  ArePutSteps steps = AreSteps (PutLaw b p flush) b w steps

  -- the input is cut into parts
  pub parts-law : (steps : List PutStep) → ArePutSteps steps → AreParts p (pieces steps)
  parts-law [] are = tt
  parts-law (ticks answer gave_up ∷ steps) are = parts-law steps are.0
  parts-law (submits (op.Write at bytes) ∷ steps) are = (are.1.2.1.full, are.1.2.2)
  parts-law (submits op.Flush ∷ steps) are = parts-law steps are.0
  parts-law (submits (op.Read span) ∷ steps) are = absurd are.1.2
  parts-law (submits op.Identify ∷ steps) are = absurd are.1.2
  parts-law (submits (op.Config ccmd text) ∷ steps) are = absurd are.1.2
  parts-law (submits (op.Masks edit dirs) ∷ steps) are = absurd are.1.2
  parts-law (submits (op.Reserve rcmd list) ∷ steps) are = absurd are.1.2
  parts-law (own fed ∷ steps) are = parts-law steps are.0
  parts-law (sends o ∷ steps) are = parts-law steps are.0
  parts-law (hears turn heard ∷ steps) are = parts-law steps are.0

  -- no more than a window is under way
  pub window-law : open_of {A = Fed} b [] ≡ 0 → (steps : List PutStep) → ArePutSteps steps → open_of b steps ≤ most_open
  window-law none [] are = omega (arith, none)
  window-law none (ticks answer gave_up ∷ steps) are =
      omega (arith, window-law none steps are.0, open-ended gave_up (Advances (record { 0 = answer }) ∷ log_of b steps))
  window-law none (submits (op.Write at bytes) ∷ steps) are =
      omega (arith, are.1.2.1.few, open-submits (ticket_at b (asked steps)) (op.Write at bytes) (log_of b steps))
  window-law none (submits op.Flush ∷ steps) are = omega (arith, are.1.2.none_open, open-submits (ticket_at b (asked steps)) op.Flush (log_of b steps))
  window-law none (submits (op.Read span) ∷ steps) are = absurd are.1.2
  window-law none (submits op.Identify ∷ steps) are = absurd are.1.2
  window-law none (submits (op.Config ccmd text) ∷ steps) are = absurd are.1.2
  window-law none (submits (op.Masks edit dirs) ∷ steps) are = absurd are.1.2
  window-law none (submits (op.Reserve rcmd list) ∷ steps) are = absurd are.1.2
  window-law none (own fed ∷ steps) are = window-law none steps are.0
  window-law none (sends o ∷ steps) are = omega (arith, window-law none steps are.0, open-frames (o ∷ []) (log_of b steps))
  window-law none (hears turn heard ∷ steps) are =
      omega (arith, window-law none steps are.0, open-heard b.host (log_of b steps) turn heard are.1.4)

  -- a write is submitted while the input is read, and the flush after all writes
  unflushed : (steps : List PutStep) → stage_of steps ≡ stage.Reading → has_flush (ops steps) ≡ false
  unflushed steps reads = elim (cases_Bool (has_flush (ops steps))) [ inl flushed ↦ absurd (let no = rw flushed at reads in cc) | inr none ↦ none ]

  unflushed-ended : (steps : List PutStep) → stage_of steps ≡ stage.Ended → has_flush (ops steps) ≡ false
  unflushed-ended steps ends_is = elim (cases_Bool (has_flush (ops steps))) [ inl flushed ↦ absurd (let no = rw flushed at ends_is in cc) | inr none ↦ none ]

  fed-none : (fed : List Fed) → flush_ops (stage_fed fed) ≡ []
  fed-none [] = refl
  fed-none (ends [] ∷ fed) = refl
  fed-none (ends (x ∷ rest) ∷ fed) = refl
  fed-none (exceeds bytes ∷ fed) = refl

  -- the operations are the writes of the parts, and the flush after them
  ops-are : (steps : List PutStep) → ArePutSteps steps → ops steps ≡ flush_ops (stage_of steps) ++ write_ops p (pieces steps)
  ops-are [] are = refl
  ops-are (ticks answer gave_up ∷ steps) are = ops-are steps are.0
  ops-are (submits (op.Write at bytes) ∷ steps) are =
      let reads = are.1.2.1.reads in
      let none = unflushed steps reads in
      let before : ops steps ≡ write_ops p (pieces steps) = rw reads at (ops-are steps are.0) in
      let own_is : op.Write at bytes ≡ write_after p (pieces steps) bytes = ap (λ (n : ℕ). op.Write n bytes) are.1.2.0 in
      let same : stage_of (submits (op.Write at bytes) ∷ steps) ≡ stage.Reading = reads in
      rw same (ap (λ (o : Op). o ∷ ops steps) own_is ∙ ap (λ (l : List Op). write_after p (pieces steps) bytes ∷ l) before)
  ops-are (submits op.Flush ∷ steps) are =
      let before : ops steps ≡ write_ops p (pieces steps) = rw are.1.2.ended at (ops-are steps are.0) in
      ap (λ (l : List Op). op.Flush ∷ l) before
  ops-are (submits (op.Read span) ∷ steps) are = absurd are.1.2
  ops-are (submits op.Identify ∷ steps) are = absurd are.1.2
  ops-are (submits (op.Config ccmd text) ∷ steps) are = absurd are.1.2
  ops-are (submits (op.Masks edit dirs) ∷ steps) are = absurd are.1.2
  ops-are (submits (op.Reserve rcmd list) ∷ steps) are = absurd are.1.2
  ops-are (own (ends rest) ∷ steps) are =
      let reads = are.1.1.1 in
      let before : ops steps ≡ write_ops p (pieces steps) = rw reads at (ops-are steps are.0) in
      rw (stage-own steps (ends rest) reads, fed-none (ends rest ∷ [])) before
  ops-are (own (exceeds bytes) ∷ steps) are =
      let reads = are.1.1.1.reads in
      let before : ops steps ≡ write_ops p (pieces steps) = rw reads at (ops-are steps are.0) in
      rw (stage-own steps (exceeds bytes) reads) before
  ops-are (sends o ∷ steps) are = ops-are steps are.0
  ops-are (hears turn heard ∷ steps) are = ops-are steps are.0

  -- each write is of a sector at least, and none of sectors that the copy doesn't have; one command is the flush
  pub asked-few : (steps : List PutStep) → ArePutSteps steps
      → (asked steps ≤ count_of (pieces steps) + count_more (has_flush (ops steps))) × (count_of (pieces steps) ≤ p.count)
  asked-few [] are = (omega arith, omega arith)
  asked-few (ticks answer gave_up ∷ steps) are = asked-few steps are.0
  asked-few (submits (op.Write at bytes) ∷ steps) are =
      let before = asked-few steps are.0 in
      let part = are.1.2.2 in
      (omega (arith, before.0, part.some, part.whole), omega (arith, before.1, part.most))
  asked-few (submits op.Flush ∷ steps) are =
      let before = asked-few steps are.0 in
      let none = ap count_more (unflushed-ended steps are.1.2.ended) in
      (omega (arith, before.0, none), before.1)
  asked-few (submits (op.Read span) ∷ steps) are = absurd are.1.2
  asked-few (submits op.Identify ∷ steps) are = absurd are.1.2
  asked-few (submits (op.Config ccmd text) ∷ steps) are = absurd are.1.2
  asked-few (submits (op.Masks edit dirs) ∷ steps) are = absurd are.1.2
  asked-few (submits (op.Reserve rcmd list) ∷ steps) are = absurd are.1.2
  asked-few (own fed ∷ steps) are = asked-few steps are.0
  asked-few (sends o ∷ steps) are = asked-few steps are.0
  asked-few (hears turn heard ∷ steps) are = asked-few steps are.0

  pub writes-law : (steps : List PutStep) → ArePutSteps steps
      → map as_asked (commands (log_of b steps)) ≡ map as_asked (commands b.log) ++ writes b p steps
  writes-law steps are = asked-law b steps ∙ ap (λ (l : List Op). map as_asked (commands b.log) ++ submissions b l) (ops-are steps are)

-- what a response says of a write and of a flush, where it is a success
write-says : (at : ℕ) (bytes : List ℕ) (h : Header) (args : List ℕ) (a : Answer) → answer (op.Write at bytes) h args ≡ Some a
    → is_success (outcome_of a args) ≡ true → outcome_of a args ≡ outcome.Written
unfolding answer
write-says at bytes h args a is well = by (has_flag h.flags 0x4) is
  where
    status : (b : Bool) → (if b then Some (answered.AtaError (slice_index args 3) (slice_index args 1)) else Some answered.Written) ≡ Some a
        → outcome_of a args ≡ outcome.Written
    status true e = absurd (let a_is : answered.AtaError (slice_index args 3) (slice_index args 1) ≡ a = same_Some _ _ e in let no = rw (← a_is) at well in cc)
    status false e = let a_is : answered.Written ≡ a = same_Some _ _ e in rw (← a_is) refl

    registers : (b : Bool)
        → (if b then (if is_failure (slice_index args 3) then Some (answered.AtaError (slice_index args 3) (slice_index args 1)) else Some answered.Written)
        else None)
        ≡ Some a → outcome_of a args ≡ outcome.Written
    registers false e = absurd cc
    registers true e = status (is_failure (slice_index args 3)) e

    by : (b : Bool) → (if b then Some (answered.AoeError h.error) else success (op.Write at bytes) args) ≡ Some a → outcome_of a args ≡ outcome.Written
    by true e = absurd (let a_is : answered.AoeError h.error ≡ a = same_Some _ _ e in let no = rw (← a_is) at well in cc)
    by false e = registers (nat_le 12 (length args)) e

flush-says : (h : Header) (args : List ℕ) (a : Answer) → answer op.Flush h args ≡ Some a → is_success (outcome_of a args) ≡ true
    → outcome_of a args ≡ outcome.Flushed
unfolding answer
flush-says h args a is well = by (has_flag h.flags 0x4) is
  where
    status : (b : Bool) → (if b then Some (answered.AtaError (slice_index args 3) (slice_index args 1)) else Some answered.Flushed) ≡ Some a
        → outcome_of a args ≡ outcome.Flushed
    status true e = absurd (let a_is : answered.AtaError (slice_index args 3) (slice_index args 1) ≡ a = same_Some _ _ e in let no = rw (← a_is) at well in cc)
    status false e = let a_is : answered.Flushed ≡ a = same_Some _ _ e in rw (← a_is) refl

    registers : (b : Bool)
        → (if b then (if is_failure (slice_index args 3) then Some (answered.AtaError (slice_index args 3) (slice_index args 1)) else Some answered.Flushed)
        else None)
        ≡ Some a → outcome_of a args ≡ outcome.Flushed
    registers false e = absurd cc
    registers true e = status (is_failure (slice_index args 3)) e

    by : (b : Bool) → (if b then Some (answered.AoeError h.error) else success op.Flush args) ≡ Some a → outcome_of a args ≡ outcome.Flushed
    by true e = absurd (let a_is : answered.AoeError h.error ≡ a = same_Some _ _ e in let no = rw (← a_is) at well in cc)
    by false e = registers (nat_le 12 (length args)) e

-- what the response to a command says, by what is said of one to its operation
done-says : {b : Start} {steps : List PutStep} {c : HostCommand} (h : IsDone b steps c) (says : Outcome)
    → ((x : Header) (args : List ℕ) (a : Answer) → answer c.op x args ≡ Some a → is_success (outcome_of a args) ≡ true → outcome_of a args ≡ says)
    → h.says ≡ says
done-says h says by =
    let a = h.told.answers in
    let is : h.says ≡ outcome_of a.answer (drop 24 h.told.frame) = sym h.told.says_so ∙ a.says in
    is ∙ option_and_then_some (λ (x : Header). cond (is_answered a.host a.command x) (answer a.command.op x (drop 24 h.told.frame)) None)
    (head h.told.frame) a.answer a.answers
    (λ x is_x found.
    elim (cases_Bool (is_answered a.host a.command x)) [
      | inl mine ↦ by x (drop 24 h.told.frame) a.answer (rw (mine, h.asks) at found) (ap is_success (sym is) ∙ h.well)
      | inr other ↦ absurd (let none = rw other at found in cc)
    ])

-- a command of a copy of which none is open was done
all-done : (cs : List HostCommand) (c : HostCommand) → Contains cs c → All (λ x. is_open x ≡ false) cs → c.done ≡ true
all-done cs c there none = not-false c.done (All-contains (λ (x : HostCommand). is_open x ≡ false) cs c none there)

many-writes : (p : Plan) (parts : List (List ℕ)) → length (write_ops p parts) ≡ length parts
many-writes p [] = refl
many-writes p (x ∷ parts) = ap suc (many-writes p parts)

was-flushed : (steps : List PutStep) → stage_of steps ≡ stage.Flushing → has_flush (ops steps) ≡ true
was-flushed steps is = elim (cases_Bool (has_flush (ops steps))) [
  | inl flushed ↦ flushed
  | inr none ↦ absurd (fed-unflushed (owns steps) (rw none at is))
]

module _ (host : Host) (p : Plan) (flush : Bool) (w : Patience) where
  abbrev b : Start
  b = new_start host

  module _ (steps : List PutStep) (are : AreSteps (PutLaw b p flush) b w steps) (well : GoesOn steps) (none : open_of b steps ≡ 0) where
    -- the command of a submission was answered
    submission-done : (s : Submission) → Contains (writes b p steps) s → (c : HostCommand) × (as_asked c ≡ s) × IsDone b steps c
    submission-done s there =
        let x = Contains-map_from as_asked (commands (log_of b steps)) s (rw (← writes-law b p flush w steps are) at there) in (
          x.0,
          x.2,
          done-at (PutLaw b p flush) host w steps x.0 are well x.1
              (all-done (commands (log_of b steps)) x.0 x.1 (none-all is_open (commands (log_of b steps)) none)),
        )

    told-of : (c : HostCommand) (says : Outcome) (t : Ticket) → (h : IsDone b steps c) → h.says ≡ says → c.ticket ≡ t → IsTold b steps t says
    told-of c says t h same ticket = record {
      later = h.told.later;
      frame = h.told.frame;
      heard = h.told.heard;
      earlier = h.told.earlier;
      order = h.told.order;
      answers = h.told.answers;
      ticket_is = h.told.ticket_is ∙ ticket;
      says_so = h.told.says_so ∙ same;
    }

    writes-done : (parts : List (List ℕ)) → ((s : Submission) → Contains (submissions b (write_ops p parts)) s → Contains (writes b p steps) s)
        → AreAcknowledged b steps parts
    writes-done [] inside = tt
    writes-done (bytes ∷ earlier) inside =
        let before = submissions b (write_ops p earlier) in
        let mine : Submission = record { ticket = ticket_at b (length (write_ops p earlier)); op = write_after p earlier bytes } in
        let x = submission-done mine (inside mine (Contains-append_right before (mine ∷ []) mine (0, omega arith, refl))) in
        let op_is : x.0.op ≡ write_after p earlier bytes = ap (λ (s : Submission). s.op) x.1 in (
          writes-done earlier (λ s there. inside s (Contains-append_left before (mine ∷ []) s there)),
          told-of x.0 outcome.Written (ticket_at b (length earlier)) x.2
              (done-says x.2 outcome.Written (λ h args a is good. write-says _ bytes h args a (rw op_is at is) good))
              (ap (λ (s : Submission). s.ticket) x.1 ∙ ap (ticket_at b) (many-writes p earlier)),
        )

    inside-writes : (st : Stage) (parts : List (List ℕ)) (s : Submission) → Contains (submissions b (write_ops p parts)) s
        → Contains (submissions b (flush_ops st ++ write_ops p parts)) s
    inside-writes stage.Reading parts s there = there
    inside-writes stage.Ended parts s there = there
    inside-writes stage.Broken parts s there = there
    inside-writes stage.Beyond parts s there = there
    inside-writes stage.Flushing parts s there =
        Contains-append_left (submissions b (write_ops p parts))
        (record { ticket = ticket_at b (length (write_ops p parts)); op = op.Flush } ∷ []) s there

    all-written : AreAcknowledged b steps (pieces steps)
    all-written = writes-done (pieces steps) (inside-writes (stage_of steps) (pieces steps))

    flush-done : stage_of steps ≡ stage.Flushing → IsTold b steps (ticket_at b (length (pieces steps))) outcome.Flushed
    flush-done flushing =
        let ws = write_ops p (pieces steps) in
        let mine : Submission = record { ticket = ticket_at b (length ws); op = op.Flush } in
        let there : Contains (writes b p steps) mine = rw flushing (Contains-append_right (submissions b ws) (mine ∷ []) mine (0, omega arith, refl)) in
        let x = submission-done mine there in
        let op_is : x.0.op ≡ op.Flush = ap (λ (s : Submission). s.op) x.1 in
        told-of x.0 outcome.Flushed (ticket_at b (length (pieces steps))) x.2
        (done-says x.2 outcome.Flushed (λ h args a is good. flush-says h args a (rw op_is at is) good))
        (ap (λ (s : Submission). s.ticket) x.1 ∙ ap (ticket_at b) (many-writes p (pieces steps)))

  -- the flush was submitted after all writes, each of which was acknowledged
  record Flushed (steps : List PutStep) : Type 0 where
    later : List PutStep
    earlier : List PutStep
    order : steps ≡ later ++ submits op.Flush ∷ earlier
    all : pieces earlier ≡ pieces steps
    each : AreAcknowledged b earlier (pieces steps)

  flushed-later : {steps : List PutStep} (step : PutStep) → pieces (step ∷ steps) ≡ pieces steps → Flushed steps → Flushed (step ∷ steps)
  flushed-later step same f = record {
    later = step ∷ f.later;
    earlier = f.earlier;
    order = ap (λ (l : List PutStep). step ∷ l) f.order;
    all = f.all ∙ sym same;
    each = rw same f.each;
  }

  flushed-at : (steps : List PutStep) → AreSteps (PutLaw b p flush) b w steps → has_flush (ops steps) ≡ true → Flushed steps
  flushed-at [] are is = absurd cc
  flushed-at (ticks answer gave_up ∷ steps) are is = flushed-later (ticks answer gave_up) refl (flushed-at steps are.0 is)
  flushed-at (submits (op.Write at bytes) ∷ steps) are is =
      absurd (let none = unflushed b p flush w steps are.1.2.1.reads in let no = sym none ∙ is in cc)
  flushed-at (submits op.Flush ∷ steps) are is =
      record { later = []; earlier = steps; order = refl; all = refl; each = all-written steps are.0 are.1.0 are.1.2.none_open }
  flushed-at (submits (op.Read span) ∷ steps) are is = absurd are.1.2
  flushed-at (submits op.Identify ∷ steps) are is = absurd are.1.2
  flushed-at (submits (op.Config ccmd text) ∷ steps) are is = absurd are.1.2
  flushed-at (submits (op.Masks edit dirs) ∷ steps) are is = absurd are.1.2
  flushed-at (submits (op.Reserve rcmd list) ∷ steps) are is = absurd are.1.2
  flushed-at (own fed ∷ steps) are is = flushed-later (own fed) refl (flushed-at steps are.0 is)
  flushed-at (sends o ∷ steps) are is = flushed-later (sends o) refl (flushed-at steps are.0 is)
  flushed-at (hears turn heard ∷ steps) are is = flushed-later (hears turn heard) refl (flushed-at steps are.0 is)

  -- all is written and flushed
  pub written-law : (steps : List PutStep) → AreSteps (PutLaw b p flush) b w steps → GoesOn steps → stage_of steps ≡ stage.Flushing → open_of b steps ≡ 0
      → IsWritten b steps
  written-law steps are well flushing none =
      let f = flushed-at steps are (was-flushed steps flushing) in
      record {
        later = f.later;
        earlier = f.earlier;
        order = f.order;
        all = f.all;
        each = f.each;
        flushed = flush-done steps are well none flushing;
      }
