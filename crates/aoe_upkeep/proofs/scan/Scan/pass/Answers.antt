use Rattle.std.proofs.Common.{◌/◌, ◌∙◌, length, arith, sym}
use Rattle.std.proofs.lemmas.Slice.Eq.{bytes_eq-Decides}
use Rattle.aoe_upkeep.proofs.ScanLemmas.{goes-on-equal}
use Rattle.aoe_upkeep.proofs.scan.Scan.pass.Goals as goal

pub returns-then-eq-clause-goes : goal.returns-then-eq-clause-goes
returns-then-eq-clause-goes g c =
    let one = c.args.one.now in
    let two = c.args.two.now in
    let same = (bytes_eq-Decides one two).0 (sym c.eq.ensures ∙ c.if-eq.true) in
    rw c.pass_equal.ensures.scan
    (goes-on-equal c.pass_equal.result one two c.args.self.now (length one / 512) (g.K.Sink.held c.args.sink.now)
    (g.K.Sink.held c.pass_equal.new.sink) same (omega (arith, c.requires.whole)) (omega (arith, c.requires.some, c.requires.whole)) c.pass_equal.ensures.closes)
