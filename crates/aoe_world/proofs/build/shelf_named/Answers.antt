use Rattle.aoe_script.specs.Rules.{is_shelf_named}
use Rattle.aoe_sim_setup.proofs.LineLemmas.{same-self}
use Rattle.aoe_world.proofs.BuildHost.{shelf-words}
use Rattle.aoe_world.proofs.BuildLists.{find-here, find-past}
use Rattle.aoe_world.proofs.build.shelf_named.Goals as goal

pub returns-in-Some : goal.returns-in-Some
returns-in-Some c =
    let here = rw c.in-Some.ensures at c.setup.ensures.setup in
    let found = find-here (is_shelf_named c.args.wanted.now) c.args.script.now.setups c.lines.i _ here (same-self c.args.wanted.now) c.lines.invariant in
    record { found = found; words = shelf-words c.setups-i-end.ensures.script found }

pub lines-preserved : goal.lines-preserved
lines-preserved c =
    find-past (is_shelf_named c.args.wanted.now) c.args.script.now.setups c.lines.i _ c.setup.ensures.setup c.in_default.ensures c.lines.invariant
