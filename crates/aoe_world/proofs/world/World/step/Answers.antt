use Rattle.std.proofs.Common.{refl}
use Rattle.aoe_sim_setup.specs.Layout.{setup_of}
use Rattle.aoe_world.proofs.WorldLemmas.{counted-at, knows-of, refused-at, stepped, stopped, where-none}
use Rattle.aoe_world.proofs.world.World.step.Goals as goal

pub run-ran-requires-clause-goes : goal.run-ran-requires-clause-goes
run-ran-requires-clause-goes c =
    let going = c.self.invariant.going c.in_default.is in
    record {
      lines = c.self.inside.script.now.setups;
      knows = knows-of c.as_slice.ensures.value going (rw (← c.self.view_is) at c.requires.few);
      can = c.events_law.ensures.comes c.self.inside.script.now c.args.event.now going.staged.good (rw (← c.self.view_is) at c.requires.good);
    }

pub invariant_of-self : goal.invariant_of-self
invariant_of-self c =
    let script = c.self.inside.script.now in
    let going = c.self.invariant.going c.in_default.is in
    let good = rw (← c.self.view_is) at c.requires.good in
    let knows = knows-of c.as_slice.ensures.value going (rw (← c.self.view_is) at c.requires.few) in
    let can = c.events_law.ensures.comes script c.args.event.now going.staged.good good in
    let ran = c.in-Ok.ensures script.setups knows can going.staged.within in
    stepped c.self.invariant c.args.event.now (c.events_law.ensures.ranges script c.args.event.now good) can
    c.in_default.is ran.0 ran.1 (ran.2, ran.3) c.history.ensures.room

pub invariant_of-self-in-Err : goal.invariant_of-self-in-Err
invariant_of-self-in-Err c =
    let script = c.self.inside.script.now in
    let going = c.self.invariant.going c.in_default.is in
    let good = rw (← c.self.view_is) at c.requires.good in
    let knows = knows-of c.as_slice.ensures.value going (rw (← c.self.view_is) at c.requires.few) in
    let can = c.events_law.ensures.comes script c.args.event.now going.staged.good good in
    let left = c.in-Err.ensures script.setups knows can going.staged.within in
    stopped c.self.invariant c.args.event.now (c.events_law.ensures.ranges script c.args.event.now good) can
    c.refusal_of-refusal.result left.begun left.lawful c.history.ensures.room
    (rw c.refusal_of-refusal.ensures (counted-at (setup_of script.setups) c.run-ran.new.sim.run c.in-Err.refusal))

pub returns-in-Ok-clause-comes : goal.returns-in-Ok-clause-comes
returns-in-Ok-clause-comes c =
    let script = c.self.inside.script.now in
    let going = c.self.invariant.going c.in_default.is in
    let knows = knows-of c.as_slice.ensures.value going (rw (← c.self.view_is) at c.requires.few) in
    let can = c.events_law.ensures.comes script c.args.event.now going.staged.good (rw (← c.self.view_is) at c.requires.good) in
    rw (← c.self.view_is) (c.in-Ok.ensures script.setups knows can going.staged.within).0

pub returns-in-Err-clause-begins : goal.returns-in-Err-clause-begins
returns-in-Err-clause-begins c =
    let script = c.self.inside.script.now in
    let going = c.self.invariant.going c.in_default.is in
    let knows = knows-of c.as_slice.ensures.value going (rw (← c.self.view_is) at c.requires.few) in
    let can = c.events_law.ensures.comes script c.args.event.now going.staged.good (rw (← c.self.view_is) at c.requires.good) in
    rw (← c.self.view_is) (where-none _ (c.in-Err.ensures script.setups knows can going.staged.within).begun)

pub returns-in-Err-clause-why : goal.returns-in-Err-clause-why
returns-in-Err-clause-why c =
    let script = c.self.inside.script.now in
    let going = c.self.invariant.going c.in_default.is in
    let knows = knows-of c.as_slice.ensures.value going (rw (← c.self.view_is) at c.requires.few) in
    let can = c.events_law.ensures.comes script c.args.event.now going.staged.good (rw (← c.self.view_is) at c.requires.good) in
    let left = c.in-Err.ensures script.setups knows can going.staged.within in
    rw (← c.self.view_is) (where-none _ (refused-at c.run-ran.new.sim.run c.in-Err.refusal c.refusal_of-refusal.result c.refusal_of-refusal.ensures left))

pub returns-in-Err-clause-stays : goal.returns-in-Err-clause-stays
returns-in-Err-clause-stays c = (refl, (invariant_of-self-in-Err c).refusal)

pub returns-in-Err-clause-reading : goal.returns-in-Err-clause-reading
returns-in-Err-clause-reading c =
    let world = invariant_of-self-in-Err c in
    c.read_law.ensures _ _ world.setup world.lawful

pub returns-in-Err-clause-lawful : goal.returns-in-Err-clause-lawful
returns-in-Err-clause-lawful c = (invariant_of-self-in-Err c).lawful
