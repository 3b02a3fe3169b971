-- A request that is finished by an outcome, without an error: each part was read or written, and its flush was done.
use Rattle.std.proofs.Common.{ℕ, ◌≡◌, ◌<◌, ◌≤◌, ◌-◌, ◌==◌, Bool, true, false, not, cond, nat_lt, List, [], ◌∷◌, map, Option, Some, None, refl, arith, inl, inr}
use Rattle.std.specs.List.{count_by, list_all, list_any}
use Rattle.std.proofs.lemmas.Bool.{and_parts, cases_Bool, eqb-true, ltb-false, not-true, or_parts}
use Rattle.aoe_base.proofs.CountLemmas.{count-cons}
use Rattle.aoe_initiator.specs.declared.outcome.Done.{Done}
use Rattle.aoe_initiator.specs.declared.outcome.Outcome.{Outcome}
use Rattle.aoe_block.specs.declared.stage.Stage.{Stage}
use Rattle.aoe_block.specs.declared.stage.Stage.TheVariants.{Pending, Handed as PartHanded, Ended as PartEnded, Failed as PartFailed}
use Rattle.aoe_block.specs.Calls.{after_done, after_outcome, are_ended, is_success, part_of, settle as settle_block, took, took_as}
use Rattle.aoe_block.specs.Parts.{Part}
use Rattle.aoe_block.specs.Stages.{is_ended, is_failed, is_handed, is_pending, is_under_way}
use Rattle.aoe_nbd.specs.declared.error.NbdError.{NbdError}
use Rattle.aoe_desk.specs.declared.flush.Flush.{Flush}
use Rattle.aoe_desk.specs.declared.flush.Flush.TheVariants.{No, Waiting, Handed, Ended, Failed}
use Rattle.aoe_desk.specs.declared.request.OpenRequest.{OpenRequest}
use Rattle.aoe_desk.specs.Requests.{first_error, flush_ended, flush_error, is_finished, is_flush_handed, is_flush_out, is_flush_waiting, is_waiting, owns, part_error, settle as settle_request, IsOpen}
use Rattle.aoe_desk.specs.Runs.{IsDone}
use Rattle.aoe_nbd_law.proofs.OrderLemmas.{some-there}

abbrev one_if : Bool → ℕ
one_if b = cond b 1 0

abbrev flies : Part → Bool
flies p = is_under_way p.stage

abbrev fails : Part → Bool
fails p = is_failed p.stage

abbrev ends : Part → Bool
ends p = is_ended p.stage

abbrev waits : Part → Bool
waits p = is_pending p.stage

-- no part waits, none is under way and none failed: each has ended
all-over : (parts : List Part) → count_by waits parts ≡ 0 → count_by flies parts ≡ 0 → list_any fails parts ≡ false → list_all ends parts ≡ true
all-over [] none out whole = refl
all-over (p ∷ parts) none out whole = at p.stage refl (all-over parts)
  where
    at : (s : Stage) → p.stage ≡ s → (count_by waits parts ≡ 0 → count_by flies parts ≡ 0 → list_any fails parts ≡ false → list_all ends parts ≡ true)
        → list_all ends (p ∷ parts) ≡ true
    at PartEnded is rest =
        let a = count-cons waits p parts in
        let b = count-cons flies p parts in
        rw is (rest (omega (arith, a, none)) (omega (arith, b, out)) (or_parts (fails p) (list_any fails parts) whole).1)
    at PartFailed is rest = absurd (let h = (or_parts (fails p) (list_any fails parts) whole).0 in let e = rw is at h in cc)
    at Pending is rest = absurd (let a = count-cons waits p parts in let z : one_if (waits p) ≡ 1 = rw is refl in omega (arith, a, z, none))
    at (PartHanded ticket) is rest = absurd (let b = count-cons flies p parts in let z : one_if (flies p) ≡ 1 = rw is refl in omega (arith, b, z, out))

-- what has ended isn't changed by an outcome
ended-stay : (w : Bool) (done : Done) (parts : List Part) → list_all ends parts ≡ true → list_all ends (map (after_done w done) parts) ≡ true
ended-stay w done [] all = refl
ended-stay w done (p ∷ parts) all = at p.stage refl (ended-stay w done parts)
  where
    at : (s : Stage) → p.stage ≡ s → (list_all ends parts ≡ true → list_all ends (map (after_done w done) parts) ≡ true)
        → list_all ends (map (after_done w done) (p ∷ parts)) ≡ true
    at PartEnded is rest = rw is (rest (and_parts (ends p) (list_all ends parts) all).1)
    at Pending is rest = absurd (let h = (and_parts (ends p) (list_all ends parts) all).0 in let e = rw is at h in cc)
    at (PartHanded ticket) is rest = absurd (let h = (and_parts (ends p) (list_all ends parts) all).0 in let e = rw is at h in cc)
    at PartFailed is rest = absurd (let h = (and_parts (ends p) (list_all ends parts) all).0 in let e = rw is at h in cc)

handed-flies : (ticket : ℕ) (s : Stage) → is_handed ticket s ≡ true → is_under_way s ≡ true
handed-flies ticket (PartHanded own) is = refl
handed-flies ticket _ is = absurd (cc)

some-flies : (ticket : ℕ) (parts : List Part) (q : Part) → part_of ticket parts ≡ Some q → 0 < count_by flies parts
some-flies ticket [] q find = absurd (cc)
some-flies ticket (p ∷ parts) q find = elim (cases_Bool (is_handed ticket p.stage)) [
  | inl is ↦ (let b = count-cons flies p parts in let z : one_if (flies p) ≡ 1 = rw (handed-flies ticket p.stage is) refl in omega (arith, b, z))
  | inr other ↦ (let b = count-cons flies p parts in let rest = some-flies ticket parts q (rw other at find) in omega (arith, b, rest))
]

success-ends : (w : Bool) (says : Outcome) (p : Part) → is_success w p.count says ≡ true → is_ended (after_outcome w says p).stage ≡ true
success-ends w says p well = rw well refl

-- the one that has its outcome was the last under way
last-over : (w : Bool) (done : Done) (parts : List Part) (q : Part) → count_by waits parts ≡ 0 → list_any fails parts ≡ false → count_by flies parts ≤ 1
    → part_of done.ticket.0 parts ≡ Some q → is_success w q.count done.outcome ≡ true → list_all ends (map (after_done w done) parts) ≡ true
last-over w done [] q none whole few find well = absurd (cc)
last-over w done (p ∷ parts) q none whole few find well = elim (cases_Bool (is_handed done.ticket.0 p.stage)) [
  | inl is ↦ (
      let same : p ≡ q = (let e = rw is at find in cc) in
      let its : is_success w p.count done.outcome ≡ true = rw same well in
      let a = count-cons waits p parts in
      let b = count-cons flies p parts in
      let z : one_if (flies p) ≡ 1 = rw (handed-flies done.ticket.0 p.stage is) refl in
      let rest = all-over parts (omega (arith, a, none)) (omega (arith, b, z, few)) (or_parts (fails p) (list_any fails parts) whole).1 in
      rw (is, success-ends w done.outcome p its) (ended-stay w done parts rest))
  | inr other ↦ (
      let a = count-cons waits p parts in
      let b = count-cons flies p parts in
      let more = some-flies done.ticket.0 parts q (rw other at find) in
      let out : count_by flies (p ∷ []) ≡ 0 = (let c = count-cons flies p [] in omega (arith, b, c, more, few)) in
      let in_wait : count_by waits (p ∷ []) ≡ 0 = (let c = count-cons waits p [] in omega (arith, a, c, none)) in
      let sound = or_parts (fails p) (list_any fails parts) whole in
      let alone = all-over (p ∷ []) in_wait out (rw sound.0 refl) in
      let rest = last-over w done parts q (omega (arith, a, none)) sound.1 (omega (arith, b, few)) (rw other at find) well in
      rw (other, (and_parts (ends p) true alone).0) rest)
]

-- ERRORS

first-none : (a b : Option NbdError) → first_error a b ≡ None → (a ≡ None) × (b ≡ None)
first-none None b e = (refl, e)
first-none (Some x) b e = absurd (cc)

took-well : (w : Bool) (done : Done) (q : Part) (over : Bool) → part_error (took_as w done (Some q) over) ≡ None → is_success w q.count done.outcome ≡ true
took-well w done q over e = elim (cases_Bool (is_success w q.count done.outcome)) [
  | inl well ↦ well
  | inr not ↦ absurd (let z = rw not at e in cc)
]

flush-out : (ticket : ℕ) (f : Flush) → is_flush_handed ticket f ≡ true → is_flush_out f ≡ true
flush-out ticket (Handed own) is = refl
flush-out ticket _ is = absurd (cc)

flush-over : (f : Flush) → (f ≡ Failed → ⊥) → (f ≡ No → ⊥) → is_flush_waiting f ≡ false → one_if (is_flush_out f) ≡ 0 → f ≡ Ended
flush-over Ended not_failed there unsaid out = refl
flush-over No not_failed there unsaid out = absurd (there refl)
flush-over Waiting not_failed there unsaid out = absurd (cc)
flush-over (Handed ticket) not_failed there unsaid out = absurd (omega (arith, out))
flush-over Failed not_failed there unsaid out = absurd (not_failed refl)

-- FINISHED

module _ (x : OpenRequest) (done : Done) (o : IsOpen x) where
  by-flush : is_flush_handed done.ticket.0 x.flush ≡ true → is_finished (settle_request done x) ≡ true → (settle_request done x).error ≡ None
      → IsDone (settle_request done x)
  by-flush is over well =
      let after : OpenRequest = record x { flush = flush_ended done.outcome; under_way = x.under_way - 1; error = first_error x.error (flush_error done.outcome) } in
      let same : settle_request done x ≡ after = rw is refl in
      let over' : is_finished after ≡ true = rw same at over in
      let well' : after.error ≡ None = rw same at well in
      let none = first-none x.error (flush_error done.outcome) well' in
      let both = and_parts (not (is_waiting after)) (after.under_way == 0) over' in
      let idle = or_parts (nat_lt 0 x.parts) (is_flush_waiting (flush_ended done.outcome)) (not-true (is_waiting after) both.0) in
      let le = ltb-false 0 x.parts idle.0 in
      let zero_out = eqb-true (x.under_way - 1) 0 both.1 in
      let w = o.well none.0 in
      let all = w.all in
      let counted = o.counted.counted in
      let out : one_if (is_flush_out x.flush) ≡ 1 = rw (flush-out done.ticket.0 x.flush is) refl in
      let flushed : flush_ended done.outcome ≡ Ended = rw none.1 refl in
      rw same (record {
        parts = all-over x.block.parts (omega (arith, le, all)) (omega (arith, counted, zero_out, out)) w.unbroken;
        flush = λ lasts. flushed;
      })

  by-part : is_flush_handed done.ticket.0 x.flush ≡ false → owns done.ticket.0 x ≡ true → is_finished (settle_request done x) ≡ true
      → (settle_request done x).error ≡ None → IsDone (settle_request done x)
  by-part not_flush own over well =
      let after : OpenRequest = record x { block = settle_block x.block done; under_way = x.under_way - 1; error = first_error x.error (part_error (took x.block done)) } in
      let same : settle_request done x ≡ after = rw not_flush refl in
      let over' : is_finished after ≡ true = rw same at over in
      let well' : after.error ≡ None = rw same at well in
      let none = first-none x.error (part_error (took x.block done)) well' in
      let find = some-there (part_of done.ticket.0 x.block.parts) (rw not_flush at own) in
      let success = took-well x.block.write done find.0 (are_ended (settle_block x.block done).parts) (rw find.1 at none.1) in
      let both = and_parts (not (is_waiting after)) (after.under_way == 0) over' in
      let idle = or_parts (nat_lt 0 x.parts) (is_flush_waiting x.flush) (not-true (is_waiting after) both.0) in
      let le = ltb-false 0 x.parts idle.0 in
      let zero_out = eqb-true (x.under_way - 1) 0 both.1 in
      let w = o.well none.0 in
      let all = w.all in
      let counted = o.counted.counted in
      let some = some-flies done.ticket.0 x.block.parts find.0 find.1 in
      rw same (record {
        parts = last-over x.block.write done x.block.parts find.0 (omega (arith, le, all)) w.unbroken (omega (arith, counted, zero_out)) find.1 success;
        flush = λ lasts. flush-over x.flush w.flush (w.lasting lasts) idle.1 (omega (arith, counted, zero_out, some));
      })

  pub finished-done : owns done.ticket.0 x ≡ true → is_finished (settle_request done x) ≡ true → (settle_request done x).error ≡ None
      → IsDone (settle_request done x)
  finished-done own over well = elim (cases_Bool (is_flush_handed done.ticket.0 x.flush)) [
    | inl is ↦ by-flush is over well
    | inr other ↦ by-part other own over well
  ]
