use Rattle.std.proofs.Common.{◌≡◌, ◌*◌, take}
use Rattle.aoe_ata.specs.Identify.{word_bytes, text_words, laid}
use Rattle.aoe_ata.proofs.identify.put_text.Given as goal

abbrev pub invariant-pairs : goal.invariant-pairs
invariant-pairs l = l.page ≡ laid l.initial.page (2 * l.word) (word_bytes (text_words (take (2 * l.pair) l.text)))
