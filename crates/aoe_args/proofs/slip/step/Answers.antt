-- An option and a value of one leave the count as it is.
use Rattle.std.proofs.Common.{None, map, rules, string_bytes, sym}
use Rattle.aoe_args.specs.Apps.{form}
use Rattle.aoe_args.proofs.RightLemmas.{before_option, before_value, next_none, one_more, same_count}
use Rattle.aoe_args.proofs.slip.step.Goals as goal

pub returns-then-not-is_value-clause-walked : goal.returns-then-not-is_value-clause-walked
returns-then-not-is_value-clause-walked c =
    same_count (form c.args.form) (map string_bytes c.args.words.now) c.args.place c.args.walked c.requires.place.0 c.requires.walked _
    (before_option (form c.args.form) (map string_bytes c.args.words.now) c.args.place c.requires.place.0 (search rules)) c.in_ok-awaited.ensures.next

pub returns-in-None-clause-walked : goal.returns-in-None-clause-walked
returns-in-None-clause-walked c =
    same_count (form c.args.form) (map string_bytes c.args.words.now) c.args.place c.args.walked c.requires.place.0 c.requires.walked None
    (before_value (form c.args.form) (map string_bytes c.args.words.now) c.args.place c.requires.place.0 c.in-Some-awaited.name.now (search rules) (search rules))
    (sym (next_none (form c.args.form) (map string_bytes c.args.words.now) c.args.place c.requires.place.0 (search rules)))

pub returns-in-None-word_slip-clause-walked : goal.returns-in-None-word_slip-clause-walked
returns-in-None-word_slip-clause-walked c =
    one_more (form c.args.form) (map string_bytes c.args.words.now) c.args.place c.args.walked c.requires.place.0 c.requires.walked (search rules) (search rules)
