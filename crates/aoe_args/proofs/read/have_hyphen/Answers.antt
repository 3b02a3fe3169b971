-- The test of each word's bytes.
use Rattle.std.proofs.Common.{◌∙◌, sym, rules, string_bytes}
use Rattle.std.proofs.lemmas.Iterator.{YieldsList-from_slice}
use Rattle.std.proofs.lemmas.Iterator.Search.{any_from_yields_List}
use Rattle.aoe_args.specs.Words.{is_hyphen}
use Rattle.aoe_args.proofs.FindLemmas.{any_map}
use Rattle.aoe_args.proofs.read.have_hyphen.Goals as goal

pub returns : goal.returns
returns c =
    any_from_yields_List (λ word. is_hyphen (string_bytes word)) _ _ _ c.any.ensures.ran
    (YieldsList-from_slice c.args.words.now c.iter.ensures.rest) (λ x b q k. search rules)
    ∙ sym (any_map is_hyphen string_bytes c.args.words.now)
