use Rattle.std.proofs.Common.{arith, ◌^◌, ◌<◌}
use Rattle.std.proofs.lemmas.List.Elements.{All-from_get_or}
use Rattle.aoe_pcap.proofs.RecordLemmas.{headed}
use Rattle.aoe_pcap.proofs.reader.lengths_of.Goals as goal

pub returns-clause-spelled : goal.returns-clause-spelled
returns-clause-spelled c =
    let bytes = c.args.bytes.now in
    let small = All-from_get_or (λ b. b < 2 ^ 8) bytes 0 (λ i _. omega (arith, c.type_inv.bytes i)) in
    let h = headed c.args.head.now.big bytes _ _ c.requires small c.word_at.ensures c.word_at-2.ensures in
    (h.seconds, h.fraction, h.seconds_small, h.fraction_small, h.bytes)
