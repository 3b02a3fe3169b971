use Rattle.std.proofs.Common.{arith, take}
use Rattle.std.proofs.lemmas.List.{length-take-le}
use Rattle.aoe_pcap.proofs.HeadLemmas.{gave-all, other-head, short-head}
use Rattle.aoe_pcap.proofs.head.read_head.Goals as goal

pub returns-in-Ok-clause-bad_header : goal.returns-in-Ok-clause-bad_header
returns-in-Ok-clause-bad_header g c = λ _.
    let out = c.fill_from.new.out in
    let few = c.if-count-lt-HEAD_LEN.true in
    let long = length-take-le c.in-Ok.count out (omega (arith, few, c.fill_from.auto.out)) in
    short-head _ _ (take c.in-Ok.count out) c.in-Ok.ensures.gave (c.in-Ok.ensures.short few) (omega (arith, long, few))

pub returns-in-None-clause-bad_header : goal.returns-in-None-clause-bad_header
returns-in-None-clause-bad_header g c = λ _.
    let out = c.fill_from.new.out in
    let whole = gave-all _ _ out c.in-Ok.count (omega (arith, c.if-count-lt-HEAD_LEN.false, c.fill_from.auto.out)) c.in-Ok.ensures.gave in
    other-head _ _ out whole c.fill_from.auto.out c.in-None.ensures.none
