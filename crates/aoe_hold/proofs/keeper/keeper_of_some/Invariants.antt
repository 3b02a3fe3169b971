use Rattle.std.proofs.Common.{◌≡◌, ◌+◌, ◌*◌, ◌++◌, List, length, nat_eq}
use Rattle.std.specs.List.{list_any}
use Rattle.aoe_hold.specs.declared.keys.Key.{Key}
use Rattle.aoe_hold.specs.Queue.{IsFree}
use Rattle.aoe_hold.proofs.keeper.keeper_of_some.Given as goal

-- the time is that of the keys so far, of which each took two steps
abbrev pub invariant-keys : goal.invariant-keys
invariant-keys g l =
    (done : List Key) × (l.fn.near.keys ≡ l.near.keys ++ done)
    × IsFree l.life.0 l.from (λ e. list_any (λ k. nat_eq e.ticket.0 k.ticket.0) done) l.commands.items l.command
    × (l.steps + 2 * length l.near.keys ≡ l.fn.steps + 2 * length l.fn.near.keys)

abbrev pub decreases-keys : goal.decreases-keys
decreases-keys g l = length l.near.keys
