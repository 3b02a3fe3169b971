use Rattle.std.proofs.Common.{◌≡◌, ◌<◌, ◌-◌, ℕ, false}
use Rattle.aoe_block.specs.Stages.{is_handed, stage_at}
use Rattle.aoe_block.proofs.steps.find_handed.Given as goal

abbrev pub invariant-parts : goal.invariant-parts
invariant-parts l = (j : ℕ) → j < l.k → is_handed l.ticket.0 (stage_at l.stages j) ≡ false

abbrev pub decreases-parts : goal.decreases-parts
decreases-parts l = l.next - l.k
