use Rattle.std.proofs.Common.{Ok, ◌≡◌, ◌+◌}
use Rattle.aoe_upkeep.specs.Scanning.{GoesOn, IsScan}
use Rattle.aoe_upkeep.proofs.scan.Scan.pass_each.Given as goal

abbrev pub invariant-sectors : goal.invariant-sectors
invariant-sectors g l = record {
  scan : IsScan l.self;
  at : l.self.at ≡ l.fn.self.at + l.k;
  goes : GoesOn (Ok tt) l.one l.two l.fn.self l.self (g.K.Sink.held l.fn.sink) (g.K.Sink.held l.sink);
  faults : g.K.Sink.faults l.sink ≡ g.K.Sink.faults l.fn.sink;
}
