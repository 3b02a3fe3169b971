use Rattle.std.proofs.Common.{arith, ◌∙◌}
use Rattle.aoe_upkeep.proofs.ScanLemmas.{cut-sector, goes-off, goes-on}
use Rattle.aoe_upkeep.proofs.scan.Scan.pass_each.Goals as goal

pub returns-in-Err-clause-goes : goal.returns-in-Err-clause-goes
returns-in-Err-clause-goes g c =
    let s = c.sectors in
    let one = c.args.one.now in
    let two = c.args.two.now in
    goes-off one two _ _ s.k c.args.self.now s.self c.pass_one.new.self (g.K.Sink.held c.args.sink.now) (g.K.Sink.held s.sink)
    (g.K.Sink.held c.pass_one.new.sink) (cut-sector one s.k) (cut-sector two s.k) (omega (arith, c.sectors-test.true, s.auto.k-end)) s.invariant.at
    s.invariant.goes c.in-Err.field-0 c.pass_one.new.self c.sectors-test.true c.in-Err.ensures.goes

pub sectors-preserved : goal.sectors-preserved
sectors-preserved g c =
    let s = c.sectors in
    let one = c.args.one.now in
    let two = c.args.two.now in
    record {
      scan = c.in-Ok.ensures.scan;
      at = omega (arith, c.in-Ok.ensures.at, s.invariant.at);
      goes = goes-on one two _ _ s.k c.args.self.now s.self c.pass_one.new.self (g.K.Sink.held c.args.sink.now) (g.K.Sink.held s.sink)
          (g.K.Sink.held c.pass_one.new.sink) (cut-sector one s.k) (cut-sector two s.k) (omega (arith, c.sectors-test.true, s.auto.k-end)) s.invariant.at
          s.invariant.goes c.in-Ok.ensures.goes;
      faults = c.in-Ok.ensures.sink.no_fault (λ e. absurd cc) ∙ s.invariant.faults;
    }
