use Rattle.aoe_soak.proofs.LoopLemmas.{next_soaked}
use Rattle.aoe_soak.proofs.whole.soak.Goals as goal

pub commands-preserved : goal.commands-preserved
commands-preserved c =
    next_soaked c.args.seed c.args.count c.commands.i c.commands.script c.put_command.new.script c.commands.invariant c.in_ok-put_command.ensures
