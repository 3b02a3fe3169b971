use Rattle.std.proofs.Common.{◌≡◌, ◌++◌, ◌+◌, ◌*◌, take, length}
use Rattle.std.specs.List.{flat_map}
use Rattle.aoe_initiator.specs.Request.{dir_bytes}
use Rattle.aoe_initiator.proofs.request.append_mask_args.Given as goal

abbrev pub invariant-dirs : goal.invariant-dirs
invariant-dirs l = (l.out.items ≡ l.initial.out.items ++ flat_map dir_bytes (take l.dir-index l.dirs))
    × (length l.out.items ≡ length l.initial.out.items + 8 * l.dir-index)
