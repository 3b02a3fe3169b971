-- What follows from the calls of a desk.
use Rattle.std.proofs.Common.{◌≡◌, ◌≤◌, ◌<◌, ◌+◌, ◌-◌, ◌⊎◌, ◌==◌, ℕ, zero, suc, Bool, true, false, not, nat_lt, nat_eq, length, List, [], ◌∷◌, ◌++◌, drop, get_or, slice_get, Option, Some, None, option_map, arith, refl, sym, ap, inl, inr}
use Rattle.std.specs.List.{list_all, list_any, remove, sum_by}
use Rattle.std.proofs.lemmas.Bool.{and_parts, cases_Bool, eqb-true, ltb-false, not-true, or_parts}
use Rattle.std.proofs.lemmas.List.Quantifiers.{position-Some}
use Rattle.std.proofs.lemmas.List.Sums.{sum_by_push, sum_by-cons, sum_by-remove}
use Rattle.std.proofs.lemmas.Option.{get_or_from_slice_get, slice_get-get_or}
use Rattle.aoe_base.specs.declared.counted.Ticket.{Ticket}
use Rattle.aoe_initiator.specs.declared.op.Op.TheVariants.{Flush as FlushOp}
use Rattle.aoe_initiator.specs.declared.outcome.Done.{Done}
use Rattle.aoe_block.specs.declared.stage.Stage.{Stage}
use Rattle.aoe_block.specs.declared.stage.Stage.TheVariants.{Pending, Handed as PartHanded, Ended as PartEnded, Failed as PartFailed}
use Rattle.aoe_block.specs.Calls.{next_part, op_of}
use Rattle.aoe_block.specs.Parts.{joined, Part}
use Rattle.aoe_block.specs.Stages.{is_ended, is_failed, is_pending, is_under_way}
use Rattle.aoe_desk.specs.declared.flush.Flush.{Flush}
use Rattle.aoe_desk.specs.declared.flush.Flush.TheVariants.{No, Waiting, Handed, Ended, Failed}
use Rattle.aoe_desk.specs.declared.request.OpenRequest.{OpenRequest}
use Rattle.aoe_desk.specs.declared.reply.Reply.{Reply}
use Rattle.aoe_desk.specs.Desks.{change_at, change_request, close, completed, first_waiting, gave_up, give_up_at, hand, hand_at, next_at, next_op, owner, settle, settle_at, under_way, DeskState, IsDesk}
use Rattle.aoe_desk.specs.Requests.{count_pending, count_with, data_of, gave_up as gave_up_request, hand as hand_request, is_finished, is_flush_handed, is_flush_out, is_flush_waiting, is_waiting, next_op as next_of, owns, reply_of, settle as settle_request, IsOpen}
use Rattle.aoe_desk.specs.Runs.{after_all, came, first_with, pending, written, Call, CanCall, IsDone, IsNextFlush, IsRun}
use Rattle.aoe_desk.specs.Runs.Call.{Takes, Refuses, Hands, GivesUp, Settles, Writes, Leaves}
use Rattle.aoe_desk.proofs.DeskLemmas.{desk_gave_up, desk_handed, desk_left, desk_new, desk_opened, desk_refused, desk_settled, desk_written, first_place, length-change_at, sum-change_at}
use Rattle.aoe_desk.proofs.PartLemmas.{count, count-cons, part_counts, one_if}

-- the bounds
dropped_less : {A : Type 0} (g : A → ℕ) (xs : List A) → (length (drop 1 xs) ≤ length xs) × (sum_by g (drop 1 xs) ≤ sum_by g xs)
dropped_less g [] = (omega arith, omega arith)
dropped_less g (x ∷ xs) = let e = sum_by-cons g x xs in (omega arith, omega (arith, e))

pub run_desk : (total max : ℕ) (calls : List Call) → IsRun total max calls → IsDesk (after_all total max calls)
run_desk total max [] run = desk_new total max run.0 run.1
run_desk total max (Takes r ∷ calls) run = let can : CanCall (Takes r) (after_all total max calls) = run.1 in desk_opened (run_desk total max calls run.0) can.6 can.5
run_desk total max (Refuses handle error ∷ calls) run = desk_refused (run_desk total max calls run.0) run.1 handle error
run_desk total max (Hands ticket ∷ calls) run = let can : CanCall (Hands ticket) (after_all total max calls) = run.1 in desk_handed (run_desk total max calls run.0) can.0 ticket can.1
run_desk total max (GivesUp ∷ calls) run = desk_gave_up (run_desk total max calls run.0)
run_desk total max (Settles done ∷ calls) run = desk_settled (run_desk total max calls run.0) done
run_desk total max (Writes ∷ calls) run =
    let d = after_all total max calls in
    let less = dropped_less (λ (r : Reply). r.room) d.replies in
    desk_written (run_desk total max calls run.0) (drop 1 d.replies) less.0 less.1
run_desk total max (Leaves ∷ calls) run = desk_left (run_desk total max calls run.0)

-- one ticket, one request
one_le : {A : Type 0} (g : A → ℕ) (xs : List A) (k : ℕ) (a : A) → slice_get xs k ≡ Some a → g a ≤ sum_by g xs
one_le g [] k a is = absurd (cc)
one_le g (x ∷ xs) zero a is = let e = sum_by-cons g x xs in let same : x ≡ a = cc in let h = ap g same in omega (arith, e, h)
one_le g (x ∷ xs) (suc k) a is = let e = sum_by-cons g x xs in let rest = one_le g xs k a is in omega (arith, e, rest)

two_le : {A : Type 0} (g : A → ℕ) (xs : List A) (j k : ℕ) (a b : A) → slice_get xs j ≡ Some a → slice_get xs k ≡ Some b → (j ≡ k) ⊎ (g a + g b ≤ sum_by g xs)
two_le g [] j k a b is_a is_b = absurd (cc)
two_le g (x ∷ xs) zero zero a b is_a is_b = inl refl
two_le g (x ∷ xs) zero (suc k) a b is_a is_b =
    let e = sum_by-cons g x xs in let same : x ≡ a = cc in let h = ap g same in let rest = one_le g xs k b is_b in inr (omega (arith, e, h, rest))
two_le g (x ∷ xs) (suc j) zero a b is_a is_b =
    let e = sum_by-cons g x xs in let same : x ≡ b = cc in let h = ap g same in let rest = one_le g xs j a is_a in inr (omega (arith, e, h, rest))
two_le g (x ∷ xs) (suc j) (suc k) a b is_a is_b =
    let e = sum_by-cons g x xs in
    elim (two_le g xs j k a b is_a is_b) [ inl same ↦ inl (ap suc same) | inr rest ↦ inr (omega (arith, e, rest)) ]

owned : (ticket : ℕ) (r : OpenRequest) → owns ticket r ≡ true → 0 < count_with ticket r
owned ticket r own = elim (cases_Bool (is_flush_handed ticket r.flush)) [
  | inl is ↦ (let one : one_if (is_flush_handed ticket r.flush) ≡ 1 = rw is refl in omega (arith, one))
  | inr is ↦ (let some = part_counts ticket r.block.parts (rw is at own) in omega (arith, some))
]

pub apart : {d : DeskState} → IsDesk d → (ticket j k : ℕ) (a b : OpenRequest) → slice_get d.open_requests j ≡ Some a → slice_get d.open_requests k ≡ Some b
    → owns ticket a ≡ true → owns ticket b ≡ true → j ≡ k
apart {d} s ticket j k a b is_a is_b own_a own_b = elim (two_le (count_with ticket) d.open_requests j k a b is_a is_b) [
  | inl same ↦ same
  | inr two ↦ absurd (let x = owned ticket a own_a in let y = owned ticket b own_b in let once = s.once ticket in omega (arith, two, x, y, once))
]

-- replies, once each
abbrev one : ℕ → OpenRequest → ℕ
one handle r = one_if (nat_eq r.handle handle)

abbrev one_reply : ℕ → Reply → ℕ
one_reply handle r = one_if (nat_eq r.handle handle)

settle_handle : (done : Done) (r : OpenRequest) → (settle_request done r).handle ≡ r.handle
settle_handle done r = elim (cases_Bool (is_flush_handed done.ticket.0 r.flush)) [ inl is ↦ rw is refl | inr is ↦ rw is refl ]

hand_handle : (ticket : Ticket) (r : OpenRequest) → (hand_request ticket r).handle ≡ r.handle
hand_handle ticket r = elim (cases_Bool (nat_lt 0 r.parts)) [ inl is ↦ rw is refl | inr is ↦ rw is refl ]

change_open : (handle k : ℕ) (change : OpenRequest → OpenRequest) → ((r : OpenRequest) → (change r).handle ≡ r.handle) → (xs : List OpenRequest) (e : OpenRequest)
    → k < length xs → sum_by (one handle) (change_at k change xs) ≡ sum_by (one handle) xs
change_open handle k change keeps xs e lt =
    let sums = sum-change_at (one handle) k change xs e lt in
    let same : one handle (change (get_or xs k e)) ≡ one handle (get_or xs k e) = ap (λ h. one_if (nat_eq h handle)) (keeps (get_or xs k e)) in
    omega (arith, sums, same)

close_pending : (handle : ℕ) (d : DeskState) (k : ℕ) (e : OpenRequest) → k < length d.open_requests → pending handle (close k d) ≤ pending handle d
close_pending handle d k e lt = elim (cases_Bool (is_finished (get_or d.open_requests k e))) [
  | inr is ↦
      let same : close k d ≡ d = rw (slice_get-get_or d.open_requests k e lt, is) refl in
      rw same (omega arith)
  | inl is ↦
      let r = get_or d.open_requests k e in
      let sums = sum_by-remove (one handle) d.open_requests k e lt in
      let more = sum_by_push (one_reply handle) d.replies (reply_of r) in
      let same : close k d ≡ completed k r d = rw (slice_get-get_or d.open_requests k e lt, is) refl in
      elim (cases_Bool (nat_lt k d.gone)) [
        | inl gone ↦
            let done_is : completed k r d ≡ record d { open_requests = remove d.open_requests k; gone = d.gone - 1 } = rw gone refl in
            rw (same, done_is) (omega (arith, sums))
        | inr stays ↦
            let done_is : completed k r d ≡ record d { open_requests = remove d.open_requests k; replies = d.replies ++ reply_of r ∷ [] } = rw stays refl in
            rw (same, done_is) (omega (arith, sums, more))
      ]
]

changed_pending : (handle : ℕ) (d : DeskState) (k : ℕ) (e : OpenRequest) (change : OpenRequest → OpenRequest) → ((r : OpenRequest) → (change r).handle ≡ r.handle)
    → k < length d.open_requests → pending handle (close k (change_request k change d)) ≤ pending handle d
changed_pending handle d k e change keeps lt =
    let len = length-change_at k change d.open_requests in
    let same = change_open handle k change keeps d.open_requests e lt in
    let less = close_pending handle (change_request k change d) k e (omega (arith, lt, len)) in
    omega (arith, same, less)

hand_pending : (handle : ℕ) (d : DeskState) (ticket : Ticket) → pending handle (hand ticket d) ≤ pending handle d
hand_pending handle d ticket = at (first_waiting d) refl
  where
    at : (w : Option ℕ) → first_waiting d ≡ w → pending handle (hand_at ticket w d) ≤ pending handle d
    at None is = omega arith
    at (Some k) is =
        let f = first_place is_waiting d.open_requests k is in
        let same = change_open handle k (hand_request ticket) (hand_handle ticket) d.open_requests f.0 f.1 in
        omega (arith, same)

gave_up_pending : (handle : ℕ) (d : DeskState) → pending handle (gave_up d) ≤ pending handle d
gave_up_pending handle d = at (first_waiting d) refl
  where
    at : (w : Option ℕ) → first_waiting d ≡ w → pending handle (give_up_at w d) ≤ pending handle d
    at None is = omega arith
    at (Some k) is =
        let f = first_place is_waiting d.open_requests k is in
        changed_pending handle d k f.0 gave_up_request (λ r. refl) f.1

settle_pending : (handle : ℕ) (d : DeskState) (done : Done) → pending handle (settle done d) ≤ pending handle d
settle_pending handle d done = at (owner done.ticket.0 d) refl
  where
    at : (w : Option ℕ) → owner done.ticket.0 d ≡ w → pending handle (settle_at done w d) ≤ pending handle d
    at None is = omega arith
    at (Some k) is =
        let f = first_place (owns done.ticket.0) d.open_requests k is in
        changed_pending handle d k f.0 (settle_request done) (settle_handle done) f.1

written_pending : (handle : ℕ) (replies : List Reply) → first_with handle replies + sum_by (one_reply handle) (drop 1 replies) ≡ sum_by (one_reply handle) replies
written_pending handle [] = refl
written_pending handle (r ∷ replies) = sym (sum_by-cons (one_reply handle) r replies)

pub once : (handle total max : ℕ) (calls : List Call)
    → written handle total max calls + pending handle (after_all total max calls) ≤ came handle calls
once handle total max [] = omega arith
once handle total max (Takes r ∷ calls) =
    let d = after_all total max calls in
    let rest = once handle total max calls in
    let more = sum_by_push (one handle) d.open_requests r in
    omega (arith, rest, more)
once handle total max (Refuses own error ∷ calls) =
    let d = after_all total max calls in
    let rest = once handle total max calls in
    let reply : Reply = record { handle = own; error = Some error; payload = []; room = 0 } in
    let more = sum_by_push (one_reply handle) d.replies reply in
    omega (arith, rest, more)
once handle total max (Hands ticket ∷ calls) =
    let rest = once handle total max calls in let less = hand_pending handle (after_all total max calls) ticket in omega (arith, rest, less)
once handle total max (GivesUp ∷ calls) =
    let rest = once handle total max calls in let less = gave_up_pending handle (after_all total max calls) in omega (arith, rest, less)
once handle total max (Settles done ∷ calls) =
    let rest = once handle total max calls in let less = settle_pending handle (after_all total max calls) done in omega (arith, rest, less)
once handle total max (Writes ∷ calls) =
    let rest = once handle total max calls in let same = written_pending handle (after_all total max calls).replies in omega (arith, rest, same)
once handle total max (Leaves ∷ calls) =
    let rest = once handle total max calls in omega (arith, rest)

-- a request that is finished without an error
all_over : (parts : List Part) → count_pending parts ≡ 0 → count is_under_way parts ≡ 0 → list_any (λ p. is_failed p.stage) parts ≡ false
    → list_all (λ p. is_ended p.stage) parts ≡ true
all_over [] none out whole = refl
all_over (p ∷ parts) none out whole = at p.stage refl (all_over parts)
  where
    at : (s : Stage) → p.stage ≡ s
        → (count_pending parts ≡ 0 → count is_under_way parts ≡ 0 → list_any (λ p. is_failed p.stage) parts ≡ false → list_all (λ p. is_ended p.stage) parts ≡ true)
        → list_all (λ p. is_ended p.stage) (p ∷ parts) ≡ true
    at PartEnded is rest =
        let a = count-cons is_pending p parts in
        let b = count-cons is_under_way p parts in
        rw is (rest (omega (arith, a, none)) (omega (arith, b, out)) (or_parts (is_failed p.stage) (list_any (λ p. is_failed p.stage) parts) whole).1)
    at PartFailed is rest = absurd (let h = (or_parts (is_failed p.stage) (list_any (λ p. is_failed p.stage) parts) whole).0 in let e = rw is at h in cc)
    at Pending is rest = absurd (let a = count-cons is_pending p parts in let z : one_if (is_pending p.stage) ≡ 1 = rw is refl in omega (arith, a, z, none))
    at (PartHanded ticket) is rest =
        absurd (let b = count-cons is_under_way p parts in let z : one_if (is_under_way p.stage) ≡ 1 = rw is refl in omega (arith, b, z, out))

flush_over : (f : Flush) → (f ≡ Failed → ⊥) → (f ≡ No → ⊥) → is_flush_waiting f ≡ false → one_if (is_flush_out f) ≡ 0 → f ≡ Ended
flush_over Ended not_failed there waits out = refl
flush_over No not_failed there waits out = absurd (there refl)
flush_over Waiting not_failed there waits out = absurd (cc)
flush_over (Handed ticket) not_failed there waits out = absurd (omega (arith, out))
flush_over Failed not_failed there waits out = absurd (not_failed refl)

pub done : (r : OpenRequest) → IsOpen r → is_finished r ≡ true → r.error ≡ None → IsDone r
done r o is_over well =
    let both = and_parts (not (is_waiting r)) (r.under_way == 0) is_over in
    let waits = or_parts (nat_lt 0 r.parts) (is_flush_waiting r.flush) (not-true (is_waiting r) both.0) in
    let le = ltb-false 0 r.parts waits.0 in
    let none = eqb-true r.under_way 0 both.1 in
    let w = o.well well in
    let all = w.all in
    let counted = o.counted.counted in
    record {
      parts = all_over r.block.parts (omega (arith, le, all)) (omega (arith, counted, none)) w.unbroken;
      flush = λ lasts. flush_over r.flush w.flush (w.lasting lasts) waits.1 (omega (arith, counted, none));
    }

pub read_data : (r : OpenRequest) → r.error ≡ None → r.reads ≡ true → data_of r ≡ joined r.block.parts
read_data r well reads = rw (well, reads) refl

-- the flush that is handed next
none_pending : (parts : List Part) → count_pending parts ≡ 0 → next_part parts ≡ None
none_pending [] none = refl
none_pending (p ∷ parts) none =
    let a = count-cons is_pending p parts in
    elim (cases_Bool (is_pending p.stage)) [
      | inl is ↦ absurd (let z : one_if (is_pending p.stage) ≡ 1 = rw is refl in omega (arith, a, z, none))
      | inr is ↦ rw is (none_pending parts (omega (arith, a, none)))
    ]

part_no_flush : (write : Bool) (part : Option Part) → option_map (op_of write) part ≡ Some FlushOp → ⊥
part_no_flush write None is = cc
part_no_flush true (Some p) is = cc
part_no_flush false (Some p) is = cc

flush_no_part : {r : OpenRequest} → IsOpen r → next_of r ≡ Some FlushOp → (nat_lt 0 r.parts ≡ false) × (is_flush_waiting r.flush ≡ true)
flush_no_part {r} o is = elim (cases_Bool (nat_lt 0 r.parts)) [
  | inl some ↦ absurd (part_no_flush r.block.write (next_part r.block.parts) (rw some at is))
  | inr none ↦ elim (cases_Bool (is_flush_waiting r.flush)) [
    | inl waits ↦ (none, waits)
    | inr not ↦ absurd (let e = rw (none, not) at is in cc)
  ]
]

pub next_flush : {d : DeskState} → IsDesk d → next_op d ≡ Some FlushOp → IsNextFlush d
next_flush {d} s is = elim (cases_Bool (under_way d == 4096)) [
  | inl full ↦ absurd (let e = rw full at is in cc)
  | inr room ↦ at (first_waiting d) refl (rw room at is)
]
  where
    at : (w : Option ℕ) → first_waiting d ≡ w → next_at d.open_requests w ≡ Some FlushOp → IsNextFlush d
    at None none op = absurd (cc)
    at (Some k) some op =
        let h = first_place is_waiting d.open_requests k some in
        let r = get_or d.open_requests k h.0 in
        let there = slice_get-get_or d.open_requests k h.0 h.1 in
        let o = s.each k h.0 h.1 in
        let next : next_of r ≡ Some FlushOp = rw there at op in
        let f = flush_no_part o next in
        let le = ltb-false 0 r.parts f.0 in
        let all = o.counted.pending h.2 in
        record {
          place = k;
          request = r;
          there = there;
          waits = f.1;
          parts = none_pending r.block.parts (omega (arith, le, all));
          before = λ j q lt at_j.
              let first = position-Some is_waiting d.open_requests k q some in
              rw (← get_or_from_slice_get d.open_requests j q q at_j) (first.2 j lt);
        }
