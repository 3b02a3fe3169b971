-- The test of each word's bytes.
use Rattle.std.proofs.Common.{◌∙◌, sym, rules, string_bytes}
use Rattle.std.proofs.lemmas.Iterator.{YieldsList-from_slice}
use Rattle.std.proofs.lemmas.Iterator.Search.{all_from_yields_List}
use Rattle.std.proofs.lemmas.List.Folds.{list_all-map}
use Rattle.aoe_args.specs.Words.{is_word}
use Rattle.aoe_args.proofs.read.are_each_words.Goals as goal

pub returns : goal.returns
returns c =
    all_from_yields_List (λ word. is_word (string_bytes word)) _ _ _ c.all.ensures.ran
    (YieldsList-from_slice c.args.words.now c.iter.ensures.rest) (λ x b q k. search rules)
    ∙ sym (list_all-map is_word string_bytes c.args.words.now)
