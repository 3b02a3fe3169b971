use Rattle.std.proofs.Common.{◌≡◌, ◌≤◌, ◌++◌, ◌-◌, replicate, length}
use Rattle.aoe_keep.proofs.body.append_zeros.Given as goal

abbrev pub invariant-zeros : goal.invariant-zeros
invariant-zeros l = record {
  items : l.body.items ≡ l.initial.body.items ++ replicate (length l.body.items - length l.initial.body.items) 0;
  more : length l.initial.body.items ≤ length l.body.items;
}

abbrev pub decreases-zeros : goal.decreases-zeros
decreases-zeros l = 3584 - length l.body.items
