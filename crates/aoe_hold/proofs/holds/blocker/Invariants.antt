use Rattle.std.proofs.Common.{ℕ, ◌≡◌, ◌<◌, ◌≤◌, false, get_or}
use Rattle.aoe_hold.specs.declared.command.Command.{Command}
use Rattle.aoe_hold.specs.Queue.{blocks}
use Rattle.aoe_hold.proofs.holds.blocker.Given as goal

-- of the commands so far none is an unfinished one in conflict
abbrev pub invariant-earlier : goal.invariant-earlier
invariant-earlier l = (l.left ≤ l.until) × ((k : ℕ) (d : Command) → l.left ≤ k → k < l.until → blocks l.command (get_or l.commands k d) ≡ false)

abbrev pub decreases-earlier : goal.decreases-earlier
decreases-earlier l = l.left
