use Rattle.std.proofs.Common.{sym, ◌∙◌}
use Rattle.aoe_hold.proofs.MoveLemmas.{none_command}
use Rattle.aoe_hold.proofs.OutsideLemmas.{gone-more}
use Rattle.aoe_hold.proofs.holds.count_gone.Goals as goal

pub past-preserved : goal.past-preserved
past-preserved c =
    gone-more c.args.life.0 c.args.latest.0 c.past.gone c.args.commands.now none_command c.past-test.true
    (sym c.is_past.ensures ∙ c.if-is_past.true) c.past.invariant
