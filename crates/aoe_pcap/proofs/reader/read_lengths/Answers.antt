use Rattle.std.proofs.Common.{arith, List, ℕ, subst}
use Rattle.aoe_io.specs.Bytes.{Gave}
use Rattle.aoe_pcap.proofs.HeadLemmas.{gave-all}
use Rattle.aoe_pcap.proofs.reader.read_lengths.Goals as goal

pub returns-clause-gave : goal.returns-clause-gave
returns-clause-gave g c =
    let s = c.lengths_of-lengths.ensures.spelled in
    let out = c.fill_from.new.out in
    let whole = gave-all _ _ out c.in-Ok.count (omega (arith, c.if-count-lt-RECORD_HEAD_LEN.false, c.fill_from.auto.out)) c.in-Ok.ensures.gave in
    let P : List ℕ → Type 0 = λ bytes. Gave (g.S.Source.left c.args.source.now) (g.S.Source.left c.fill_from.new.source) bytes in
    (s.0, s.1, s.2, s.3, subst P s.4 whole)
