use Rattle.std.proofs.Common.{[], arith, sym, ◌∙◌}
use Rattle.aoe_io.proofs.BytesLemmas.{Took-nothing}
use Rattle.std.proofs.lemmas.Slice.Eq.{bytes_eq-Decides}
use Rattle.aoe_upkeep.proofs.ScanLemmas.{goes-differ, goes-on-equal}
use Rattle.aoe_upkeep.proofs.scan.Scan.pass_one.Goals as goal

pub returns-then-eq-clause-goes : goal.returns-then-eq-clause-goes
returns-then-eq-clause-goes g c =
    let same = (bytes_eq-Decides c.args.one.now c.args.two.now).0 (sym c.eq.ensures ∙ c.if-eq.true) in
    rw c.pass_equal.ensures.scan
    (goes-on-equal c.pass_equal.result c.args.one.now c.args.two.now c.args.self.now 1 (g.K.Sink.held c.args.sink.now) (g.K.Sink.held c.pass_equal.new.sink)
    same c.requires.one (omega arith) c.pass_equal.ensures.closes)

pub returns-clause-goes : goal.returns-clause-goes
returns-clause-goes g c = (
  [],
  goes-differ c.args.one.now c.args.two.now c.args.self.now (sym c.eq.ensures ∙ c.if-eq.false) c.requires.one c.requires.two,
  Took-nothing (g.K.Sink.held c.args.sink.now),
)
