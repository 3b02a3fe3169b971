use Rattle.std.proofs.Common.{◌==◌, refl}
use Rattle.std.proofs.lemmas.Bool.{and_from, eq-eqb}
use Rattle.aoe_script.specs.Rules.{is_slot, same}
use Rattle.aoe_sim_setup.proofs.LineLemmas.{same-self}
use Rattle.aoe_world.proofs.BuildHost.{slot-words}
use Rattle.aoe_world.proofs.BuildLists.{find-here, find-past}
use Rattle.aoe_world.proofs.build.slot_numbered.Goals as goal

pub returns-in-Some : goal.returns-in-Some
returns-in-Some c =
    let name = c.args.wanted.now in
    let own = and_from (c.args.number == c.args.number) (same name name) (eq-eqb c.args.number c.args.number refl) (same-self name) in
    let here = rw c.in-Some.ensures at c.setup.ensures.setup in
    let found = find-here (is_slot name c.args.number) c.args.script.now.setups c.lines.i _ here own c.lines.invariant in
    record { found = found; number = slot-words c.setups-i-end.ensures.script found }

pub lines-preserved : goal.lines-preserved
lines-preserved c =
    find-past (is_slot c.args.wanted.now c.args.number) c.args.script.now.setups c.lines.i _ c.setup.ensures.setup c.in_default.ensures c.lines.invariant
