use Rattle.std.proofs.Common.{◌∙◌, Err, Ok, Some, refl}
use Rattle.aoe_io.specs.declared.links.Got.TheVariants as got
use Rattle.aoe_wire.proofs.TurnLemmas.{ended, goes-on, over}
use Rattle.aoe_wire.specs.declared.medium.Taken.TheVariants as taken
use Rattle.aoe_wire.proofs.turn.take_turn.Goals as goal

pub returns-in-Frame-clause-turn : goal.returns-in-Frame-clause-turn
returns-in-Frame-clause-turn g c =
    ended _ _ _ c.tries.begun c.tries.counter c.take.new.out.items c.tries.invariant.0 taken.Frame (Ok got.Frame) c.in-Frame.ensures.took refl

pub returns-in-Silence-clause-turn : goal.returns-in-Silence-clause-turn
returns-in-Silence-clause-turn g c =
    ended _ _ _ c.tries.begun c.tries.counter c.take.new.out.items c.tries.invariant.0 taken.Silence (Ok got.Quiet) c.in-Silence.ensures.took refl

pub returns-in-Fault-clause-turn : goal.returns-in-Fault-clause-turn
returns-in-Fault-clause-turn g c =
    ended _ _ _ c.tries.begun c.tries.counter c.take.new.out.items c.tries.invariant.0 taken.Fault (Err record {}) c.in-Fault.ensures.took refl

pub returns-in-None-clause-turn : goal.returns-in-None-clause-turn
returns-in-None-clause-turn g c =
    over _ _ _ c.tries.begun c.tries.counter c.take.new.out.items c.tries.invariant.0 c.in-Dropped.at c.in-Dropped.ensures.took c.in-None.ensures

pub tries-preserved : goal.tries-preserved
tries-preserved g c = (
  goes-on _ _ _ c.tries.begun c.tries.counter c.take.new.out.items c.tries.invariant.0 c.in-Dropped.at (Some c.in-Some.first) c.in-Dropped.ensures.took
      c.in-Some.ensures refl,
  c.in-Dropped.ensures.gave ∙ c.tries.invariant.1,
)
