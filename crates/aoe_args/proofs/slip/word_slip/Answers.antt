-- A text that its argument takes is all that is asked of a word.
use Rattle.std.proofs.Common.{map, rules, string_bytes}
use Rattle.aoe_args.specs.Apps.{form}
use Rattle.aoe_args.proofs.RightLemmas.{if_none_then, right_word}
use Rattle.aoe_args.proofs.slip.word_slip.Goals as goal

pub returns-in-Some-clause-none : goal.returns-in-Some-clause-none
returns-in-Some-clause-none c =
    if_none_then _
    (right_word (form c.args.form) (map string_bytes c.args.words.now) c.args.place c.requires.place.0 _ _ c.requires.word (search rules) c.word_at.ensures)
    c.text_slip.ensures.none
