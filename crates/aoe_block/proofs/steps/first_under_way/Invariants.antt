use Rattle.std.proofs.Common.{◌≤◌, ◌-◌}
use Rattle.aoe_block.specs.Fields.{NoneBefore}
use Rattle.aoe_block.proofs.steps.first_under_way.Given as goal

abbrev pub invariant-parts : goal.invariant-parts
invariant-parts l = NoneBefore l.stages l.k × (l.k ≤ l.next)

abbrev pub decreases-parts : goal.decreases-parts
decreases-parts l = l.next - l.k
