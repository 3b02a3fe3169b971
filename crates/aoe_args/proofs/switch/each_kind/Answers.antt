-- Each turn reads the next word.
use Rattle.aoe_vlan.specs.Tag.{is_numbered}
use Rattle.aoe_args.specs.Switching.{kind_of}
use Rattle.aoe_args.proofs.ListedLemmas.{none_given, word_read}
use Rattle.aoe_args.proofs.SwitchLemmas.{all_with}
use Rattle.aoe_args.proofs.switch.each_kind.Goals as goal

pub returns-in_err-kind-clause-value : goal.returns-in_err-kind-clause-value
returns-in_err-kind-clause-value c =
    let none = none_given kind_of c.args.words.now _ _ c.words.invariant.so_far _ c.words-test.true _ c.as_bytes.ensures.value c.in_err-kind.ensures.value in
    rw c.from_residual.ensures none

pub words-preserved : goal.words-preserved
words-preserved c = record {
  so_far =
      rw c.push.ensures.items
      (word_read kind_of c.args.words.now _ _ c.words.invariant.so_far _ c.words-test.true _ c.as_bytes.ensures.value _ c.in_ok-kind.ensures.value);
  numbers = rw c.push.ensures.items (all_with is_numbered c.words.kinds.items c.in_ok-kind.kind c.words.invariant.numbers c.in_ok-kind.ensures.range);
}
