use Rattle.std.proofs.Common.{◌≡◌, drop}
use Rattle.std.specs.List.{find}
use Rattle.aoe_script.specs.Rules.{is_shelf_named}
use Rattle.aoe_world.proofs.build.shelf_named.Given as goal

abbrev pub invariant-lines : goal.invariant-lines
invariant-lines l = find (is_shelf_named l.wanted) (drop l.i l.script.setups) ≡ find (is_shelf_named l.wanted) l.script.setups
