use Rattle.std.proofs.Common.{◌≡◌, ◌+◌, length}
use Rattle.aoe_hold.specs.Queue.{Moved}
use Rattle.aoe_hold.proofs.holds.make_ready.Given as goal

-- each step so far moved a command
abbrev pub invariant-past : goal.invariant-past
invariant-past g l =
    Moved l.now.0 l.fn.timed l.fn.ready l.timed l.ready
    × (length l.timed.items + length l.ready.items ≡ length l.fn.timed.items + length l.fn.ready.items)
    × (l.steps + length l.fn.ready.items ≡ l.fn.steps + length l.ready.items)

abbrev pub decreases-past : goal.decreases-past
decreases-past g l = length l.timed.items
