-- Each turn reads the next word.
use Rattle.aoe_base.specs.Names.{mac_of}
use Rattle.aoe_args.proofs.ListedLemmas.{none_listed, word_read}
use Rattle.aoe_args.proofs.lists.read_macs.Goals as goal

pub returns-in_err-read_mac-clause-value : goal.returns-in_err-read_mac-clause-value
returns-in_err-read_mac-clause-value c =
    let none = none_listed mac_of c.args.words.now _ _ c.words.invariant _ c.words-test.true _ c.as_bytes.ensures.value c.in_err-read_mac.ensures in
    rw c.from_residual.ensures none

pub words-preserved : goal.words-preserved
words-preserved c =
    rw c.push.ensures.items
    (word_read mac_of c.args.words.now _ _ c.words.invariant _ c.words-test.true _ c.as_bytes.ensures.value _ c.in_ok-read_mac.ensures)
