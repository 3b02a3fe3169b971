use Rattle.std.proofs.Common.{arith, ◌^◌, ◌<◌, ◌∙◌, sym}
use Rattle.std.proofs.lemmas.Bool.{OnFalse_from, OnTrue_from}
use Rattle.std.proofs.lemmas.List.Elements.{All-from_get_or}
use Rattle.aoe_pcap.proofs.HeadLemmas.{head-known, known-head}
use Rattle.aoe_pcap.proofs.head.Head.begins.Goals as goal

pub returns-clause-yes : goal.returns-clause-yes
returns-clause-yes c = OnTrue_from c.is_known.result _ (λ yes.
    let bytes = c.args.bytes.now in
    let small = All-from_get_or (λ b. b < 2 ^ 8) bytes 0 (λ i _. omega (arith, c.type_inv.bytes i)) in
    let s = known-head c.args.self.big bytes _ _ _ _ c.requires small (sym c.is_known.ensures ∙ yes)
    c.word_at.ensures c.half_at.ensures c.half_at-2.ensures c.word_at-2.ensures in
    (s.head, s.fits, s.order, s.bytes))

pub returns-clause-no : goal.returns-clause-no
returns-clause-no c = OnFalse_from c.is_known.result _ (λ no h order e.
    let same = head-known h c.args.self.big c.args.bytes.now _ _ _ _ order e c.word_at.ensures c.half_at.ensures c.half_at-2.ensures c.word_at-2.ensures in
    absurd (cc))
