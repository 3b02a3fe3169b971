use Rattle.std.proofs.Common.{◌≡◌, ◌++◌, ◌+◌, ◌*◌, take, length}
use Rattle.std.specs.List.{flat_map}
use Rattle.aoe_initiator.proofs.request.append_reserve_args.Given as goal

abbrev pub invariant-addresses : goal.invariant-addresses
invariant-addresses l = (l.out.items ≡ l.initial.out.items ++ flat_map (λ a. a.0) (take l.address-index l.list))
    × (length l.out.items ≡ length l.initial.out.items + 6 * l.address-index)
