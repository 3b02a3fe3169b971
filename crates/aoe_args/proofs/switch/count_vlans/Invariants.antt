use Rattle.std.proofs.Common.{◌≡◌, ◌≤◌, length}
use Rattle.aoe_args.proofs.SwitchLemmas.{carried_below}
use Rattle.aoe_args.proofs.switch.count_vlans.Given as goal

abbrev pub invariant-vids : goal.invariant-vids
invariant-vids l = record {
  from : 1 ≤ l.vid;
  to : l.vid ≤ 4095;
  few : l.count ≤ l.vid;
  so_far : l.count ≡ length (carried_below l.kinds l.vid);
}
