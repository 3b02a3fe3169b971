use Rattle.std.proofs.Common.{◌-◌, ◌≡◌, ◌≤◌, ◌<◌, ◌+◌, ℕ, true, false, get_or, length}
use Rattle.aoe_mirror.proofs.marks.Marks.run_from.Given as goal

abbrev pub invariant-run : goal.invariant-run
invariant-run l = (l.n ≤ 64) × (l.at + l.n ≤ length l.self) × ((s : ℕ) → l.at ≤ s → s < l.at + l.n → get_or l.self s false ≡ true)

abbrev pub decreases-run : goal.decreases-run
decreases-run l = 64 - l.n
