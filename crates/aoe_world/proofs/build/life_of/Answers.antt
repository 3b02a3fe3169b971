use Rattle.std.proofs.Common.{sym, ap, ◌∙◌}
use Rattle.std.specs.Prelude.{is_some}
use Rattle.aoe_sim_setup.specs.Layout.{life_in}
use Rattle.aoe_world.proofs.BuildLists.{find-here, find-past}
use Rattle.aoe_world.proofs.build.life_of.Goals as goal

pub returns-in-Some : goal.returns-in-Some
returns-in-Some c =
    let says = sym c.life_in.ensures ∙ c.in-Some.is in
    rw (find-here (λ line. is_some (life_in line)) c.args.script.now.setups c.lines.i _ c.setup.ensures.setup (ap is_some says) c.lines.invariant, says)

pub lines-preserved : goal.lines-preserved
lines-preserved c =
    find-past (λ line. is_some (life_in line)) c.args.script.now.setups c.lines.i _ c.setup.ensures.setup
    (ap is_some (sym c.life_in.ensures ∙ c.in_default.is)) c.lines.invariant
