use Rattle.std.proofs.Common.{◌≡◌, ◌==◌, ◌≤◌, length, true}
use Rattle.std.specs.List.{list_all, slice_split}
use Rattle.aoe_base.proofs.EachLemmas.{AreRead}
use Rattle.aoe_vlan.specs.Tag.{is_vid}
use Rattle.aoe_args.specs.Switching.{vid_of}
use Rattle.aoe_args.proofs.switch.each_vid.Given as goal

abbrev pub invariant-parts : goal.invariant-parts
invariant-parts l = record {
  can : (goal.iterator-parts).can_next l.part-iterator;
  ends : (goal.iterator-parts).is_finite l.part-iterator;
  few : length l.vids.items ≤ 64;
  so_far : AreRead vid_of (slice_split (λ c. c == 44) l.fn.text) (length l.yielded) l.vids.items;
  numbers : list_all is_vid l.vids.items ≡ true;
}
