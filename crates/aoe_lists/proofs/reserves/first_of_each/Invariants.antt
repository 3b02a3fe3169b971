use Rattle.std.proofs.Common.{◌≡◌, ◌≤◌, take, length}
use Rattle.aoe_lists.specs.Addresses.{first_places}
use Rattle.aoe_lists.specs.Reserves.{addresses}
use Rattle.aoe_lists.proofs.reserves.first_of_each.Given as goal

abbrev pub invariant-loop-six : goal.invariant-loop-six
invariant-loop-six l = (l.list.items ≡ first_places (addresses (take l.six-index l.given))) × (length l.list.items ≤ l.six-index)
