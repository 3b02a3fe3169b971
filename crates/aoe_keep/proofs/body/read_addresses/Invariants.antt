use Rattle.std.proofs.Common.{◌≡◌, take, length, true}
use Rattle.aoe_base.specs.Addresses.{all_unique}
use Rattle.aoe_lists.specs.Reserves.{addresses}
use Rattle.aoe_keep.proofs.body.read_addresses.Given as goal

abbrev pub invariant-loop-six : goal.invariant-loop-six
invariant-loop-six l = record {
  items : l.list.items ≡ addresses (take l.six-index l.six-items);
  len : length l.list.items ≡ l.six-index;
  unique : all_unique l.list.items ≡ true;
}
