use Rattle.std.specs.List.{count_by}
use Rattle.aoe_hold.specs.Queue.{waited_for, Released}
use Rattle.aoe_hold.proofs.holds.release.Given as goal

-- those that were taken out so far are queued
abbrev pub invariant-waiting : goal.invariant-waiting
invariant-waiting g l = Released l.life.0 l.latest.0 l.commands l.ended l.fn.timed l.fn.blocked l.timed l.blocked

abbrev pub decreases-waiting : goal.decreases-waiting
decreases-waiting g l = count_by (waited_for l.ended) l.blocked.items
