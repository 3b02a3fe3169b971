use Rattle.std.proofs.Common.{◌≡◌, ◌++◌, ◌+◌, ◌*◌, take, length}
use Rattle.std.specs.List.{All, flat_map}
use Rattle.aoe_keep.proofs.body.append_addresses.Given as goal

abbrev pub invariant-loop-address : goal.invariant-loop-address
invariant-loop-address l = record {
  items : l.body.items ≡ l.initial.body.items ++ flat_map (λ a. a.0) (take l.address-index l.list);
  len : length l.body.items ≡ length l.initial.body.items + 6 * l.address-index;
  six : All (λ a. length a.0 ≡ 6) (take l.address-index l.list);
}
