use Rattle.std.proofs.Common.{◌≡◌, ◌++◌, ◌+◌, ◌*◌, take, length, ◌∷◌}
use Rattle.std.specs.List.{flat_map}
use Rattle.aoe_lists.proofs.masks.write_args.Given as goal

abbrev pub invariant-loop-mask : goal.invariant-loop-mask
invariant-loop-mask l = (l.args.items ≡ l.initial.args.items ++ flat_map (λ a. 0 ∷ 0 ∷ a.0) (take l.mask-index l.mask-items))
    × (length l.args.items ≡ 4 + 8 * l.mask-index)
