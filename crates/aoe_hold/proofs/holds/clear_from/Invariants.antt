use Rattle.std.proofs.Common.{ℕ, ◌≡◌, ◌≤◌, not, nat_le, drop}
use Rattle.std.specs.List.{list_any}
use Rattle.aoe_hold.specs.Queue.{lingers}
use Rattle.aoe_hold.proofs.holds.clear_from.Given as goal

-- the time is that of the commands so far
abbrev pub invariant-earlier : goal.invariant-earlier
invariant-earlier l = (l.left ≤ l.until) × ((now : ℕ) → list_any (λ e. lingers l.life.0 now l.command e) (drop l.left l.commands) ≡ not (nat_le l.from now))

abbrev pub decreases-earlier : goal.decreases-earlier
decreases-earlier l = l.left
