use Rattle.std.proofs.Common.{◌∙◌, Err, Ok, refl}
use Rattle.aoe_wire.proofs.SendLemmas.{again, ended}
use Rattle.aoe_wire.specs.declared.medium.Given.TheVariants as given
use Rattle.aoe_wire.proofs.send.give_one.Goals as goal

pub returns-in-Sent-clause-gives : goal.returns-in-Sent-clause-gives
returns-in-Sent-clause-gives g c =
    ended _ _ _ c.args.peer c.args.frame.now c.tries.counter c.tries.invariant.0 given.Sent (Ok record {}) c.in-Sent.ensures.gave refl

pub returns-in-Lost-clause-gives : goal.returns-in-Lost-clause-gives
returns-in-Lost-clause-gives g c =
    ended _ _ _ c.args.peer c.args.frame.now c.tries.counter c.tries.invariant.0 given.Lost (Ok record {}) c.in-Lost.ensures.gave refl

pub returns-in-Fault-clause-gives : goal.returns-in-Fault-clause-gives
returns-in-Fault-clause-gives g c =
    ended _ _ _ c.args.peer c.args.frame.now c.tries.counter c.tries.invariant.0 given.Fault (Err record {}) c.in-Fault.ensures.gave refl

pub tries-preserved : goal.tries-preserved
tries-preserved g c = (
  again _ _ _ c.args.peer c.args.frame.now c.tries.counter c.tries.invariant.0 c.in-Interrupted.ensures.gave,
  c.in-Interrupted.ensures.took ∙ c.tries.invariant.1,
)
