use Rattle.std.proofs.Common.{◌-◌, ◌≡◌, length}
use Rattle.aoe_upkeep.specs.Comparing.{scene}
use Rattle.aoe_upkeep.specs.Scanning.{IsScan}
use Rattle.aoe_upkeep.proofs.SideLemmas.{HasRead}
use Rattle.aoe_upkeep.proofs.sides.compare_sides.Given as goal

abbrev pub invariant-pieces : goal.invariant-pieces
invariant-pieces g l = record {
  scan : IsScan l.scan;
  sectors : l.sectors ≡ (g.D.Disk.state l.fn.one).sectors;
  first : length l.first ≡ 32768;
  second : length l.second ≡ 32768;
  has : HasRead l.scan (scene g.D.Disk.state g.K.Sink.held l.fn.one l.fn.two l.fn.sink) (scene g.D.Disk.state g.K.Sink.held l.one l.two l.sink);
  faults : g.K.Sink.faults l.sink ≡ g.K.Sink.faults l.fn.sink;
}

abbrev pub decreases-pieces : goal.decreases-pieces
decreases-pieces g l = l.sectors - l.scan.at
