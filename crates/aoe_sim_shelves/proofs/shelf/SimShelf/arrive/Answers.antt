-- Each exit, by what is known of the slots that the frame came to.
use Rattle.std.proofs.Common.{◌≡◌, ◌≤◌, length, Option, Some, None, Err, sym, ap, ◌∙◌, arith, add-one}
use Rattle.std.specs.Prelude.{OnErr, Result}
use Rattle.aoe_disk.specs.declared.loss.Loss.{Loss}
use Rattle.aoe_sim_shelves.specs.Arrival.{IsCut}
use Rattle.aoe_sim_shelves.specs.Shelf.{SimShelf}
use Rattle.aoe_sim_shelves.proofs.ArrivalLemmas.{crashed-each, crashed-some, passes-all, passes-full, passes-on, passes-some}
use Rattle.aoe_sim_shelves.proofs.shelf.SimShelf.arrive.Goals as goal

on-err : {T E : Type 0} (r : Result T E) (P : Type 0) → P → OnErr r P
on-err r P p = grind arith

not-some : (o : Option Loss) → ((how : Loss) → o ≡ Some how → ⊥) → o ≡ None
not-some o whole = grind arith

pub returns-in_err-how-clause-err : goal.returns-in_err-how-clause-err
returns-in_err-how-clause-err c = on-err c.from_residual.result _ (λ s slots shelf serves lawful fresh.
    let p = c.slots.invariant.passes s slots (record { shelf = shelf; serves = serves; lawful = lawful; fresh = fresh }) in
    rw c.in_err-how.ensures.err (passes-some p, p.reached.lawful))

pub returns-in_err-how-clause-full : goal.returns-in_err-how-clause-full
returns-in_err-how-clause-full c limit full s slots shelf serves lawful fresh =
    let p = c.slots.invariant.passes s slots (record { shelf = shelf; serves = serves; lawful = lawful; fresh = fresh }) in
    passes-full p _ (c.in_err-how.ensures.full limit (ap Err (sym (rw full at c.from_residual.ensures.1))) s slots p.reached)

pub returns-in-Ok-clause-ok : goal.returns-in-Ok-clause-ok
returns-in-Ok-clause-ok c s slots shelf serves lawful fresh =
    let p = c.slots.invariant.passes s slots (record { shelf = shelf; serves = serves; lawful = lawful; fresh = fresh }) in
    let cut : IsCut s slots _ _ _ c.in-Some.how _ _ _ = rw c.in-Some.is at (c.in_ok-how.ensures.comes s slots p.reached) in
    let crashed = c.in-Ok.ensures.ok s slots shelf cut.stands cut.lawful in
    (crashed-each p cut _ crashed.0, crashed.1, crashed.2)

pub returns-in-Err-clause-err : goal.returns-in-Err-clause-err
returns-in-Err-clause-err c s slots shelf serves lawful fresh =
    let p = c.slots.invariant.passes s slots (record { shelf = shelf; serves = serves; lawful = lawful; fresh = fresh }) in
    let cut : IsCut s slots _ _ _ c.in-Some.how _ _ _ = rw c.in-Some.is at (c.in_ok-how.ensures.comes s slots p.reached) in
    let crashed = c.in-Err.ensures.err s slots shelf cut.stands cut.lawful in
    (crashed-some p cut _ crashed.0, crashed.1)

pub slots-preserved : goal.slots-preserved
slots-preserved c = record {
  passes = λ s slots r.
      let p = c.slots.invariant.passes s slots r in
      passes-on p _ (add-one c.slots.slot) (rw (not-some _ c.in_default.not-Some) at (c.in_ok-how.ensures.comes s slots p.reached));
  life = c.arrive_at.ensures.life ∙ c.slots.invariant.life;
  count = c.arrive_at.ensures.count ∙ c.slots.invariant.count;
  major = c.arrive_at.ensures.major ∙ c.slots.invariant.major;
  stations = c.arrive_at.ensures.stations ∙ c.slots.invariant.stations;
}

pub returns-clause-ok : goal.returns-clause-ok
returns-clause-ok c s slots shelf serves lawful fresh =
    let p = c.slots.invariant.passes s slots (record { shelf = shelf; serves = serves; lawful = lawful; fresh = fresh }) in
    let same : length c.self.inside.shelf.targets ≡ length c.args.self.now.shelf.targets = ap (λ (x : SimShelf). length x.shelf.targets) c.self.view_is in
    let all : length slots ≤ c.slots.slot = omega (arith, c.slots-test.false, c.count-slot-end.ensures.count, serves.count, same) in
    (passes-all p all, p.reached.lawful, p.reached.serves)
