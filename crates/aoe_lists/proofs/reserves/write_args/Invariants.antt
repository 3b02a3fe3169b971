use Rattle.std.proofs.Common.{◌≡◌, ◌++◌, ◌+◌, ◌*◌, take, length}
use Rattle.std.specs.List.{flat_map}
use Rattle.aoe_lists.proofs.reserves.write_args.Given as goal

abbrev pub invariant-loop-address : goal.invariant-loop-address
invariant-loop-address l = (l.args.items ≡ l.initial.args.items ++ flat_map (λ a. a.0) (take l.address-index l.address-items))
    × (length l.args.items ≡ 2 + 6 * l.address-index)
