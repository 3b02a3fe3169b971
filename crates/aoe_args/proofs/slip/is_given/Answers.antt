-- Each turn looks at the next word.
use Rattle.std.proofs.Common.{◌∙◌, [], map, sym, rules, string_bytes}
use Rattle.std.proofs.lemmas.List.{length-map}
use Rattle.std.specs.Str.{bytes_eq}
use Rattle.aoe_args.specs.Places.{option_name}
use Rattle.aoe_args.proofs.FindLemmas.{any_here, any_later, any_nowhere}
use Rattle.aoe_args.proofs.slip.is_given.Goals as goal

pub returns-then-eq : goal.returns-then-eq
returns-then-eq c =
    sym (any_here (λ word. bytes_eq (option_name word) c.args.name.now) (map string_bytes c.args.words.now) c.words.place []
    (rw (length-map c.args.words.now string_bytes) c.words-test.true) (search rules))
    ∙ c.words.invariant

pub words-preserved : goal.words-preserved
words-preserved c =
    any_later (λ word. bytes_eq (option_name word) c.args.name.now) (map string_bytes c.args.words.now) c.words.place []
    (rw (length-map c.args.words.now string_bytes) c.words-test.true) (search rules)
    ∙ c.words.invariant

pub returns : goal.returns
returns c =
    sym (any_nowhere (λ word. bytes_eq (option_name word) c.args.name.now) (map string_bytes c.args.words.now) c.words.place
    (rw (length-map c.args.words.now string_bytes) c.words-test.false))
    ∙ c.words.invariant
