use Rattle.std.proofs.Common.{◌≡◌, drop}
use Rattle.std.specs.List.{find}
use Rattle.aoe_script.specs.Rules.{is_slot}
use Rattle.aoe_world.proofs.build.slot_numbered.Given as goal

abbrev pub invariant-lines : goal.invariant-lines
invariant-lines l = find (is_slot l.wanted l.number) (drop l.i l.script.setups) ≡ find (is_slot l.wanted l.number) l.script.setups
