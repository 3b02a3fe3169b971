use Rattle.std.proofs.Common.{◌≡◌, drop}
use Rattle.std.specs.Prelude.{is_some}
use Rattle.std.specs.List.{find}
use Rattle.aoe_sim_setup.specs.Layout.{life_in}
use Rattle.aoe_world.proofs.build.life_of.Given as goal

-- what is looked for isn't in the lines before
abbrev pub invariant-lines : goal.invariant-lines
invariant-lines l = find (λ line. is_some (life_in line)) (drop l.i l.script.setups) ≡ find (λ line. is_some (life_in line)) l.script.setups
