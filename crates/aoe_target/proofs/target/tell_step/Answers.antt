use Rattle.std.proofs.Common.{Bool, true, false}
use Rattle.std.specs.Bool.{OnTrue}
use Rattle.aoe_target.specs.Law.{step_of}
use Rattle.aoe_target.specs.Receive.{is_change}
use Rattle.aoe_target.proofs.target.tell_step.Goals as goal

where_so : (b : Bool) {P : Type 0} → P → OnTrue b P
where_so true p = p
where_so false p = tt

pub returns-in-Err-clause-edit : goal.returns-in-Err-clause-edit
returns-in-Err-clause-edit g c =
    where_so (is_change (step_of c.args.station.now c.args.keep.now.lists c.args.frame.now c.args.command))
    (record { calls = c.in-Err.ensures.run; others = c.in-Err.ensures.others })
