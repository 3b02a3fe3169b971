-- The word at the front is what stands between the spaces there and the next one.
use Rattle.std.proofs.Common.{rules}
use Rattle.aoe_script.proofs.WordLemmas.{next_is, none_is, shorter}
use Rattle.aoe_script.proofs.words.next_word.Goals as goal

pub returns-then-is_empty-clause-none : goal.returns-then-is_empty-clause-none
returns-then-is_empty-clause-none c = none_is c.args.line.now c.from-rest.result.now c.run.result c.run.ensures.place c.from-rest.ensures (search rules)

pub returns-clause-word : goal.returns-clause-word
returns-clause-word c =
    next_is c.args.line.now c.from-rest.result.now c.from.result.now c.run.result c.until-end.result
    c.run.ensures.place c.from-rest.ensures c.until-end.ensures.place c.from.ensures (search rules)

pub returns-clause-shorter : goal.returns-clause-shorter
returns-clause-shorter c =
    shorter c.args.line.now c.from-rest.result.now c.from.result.now c.run.result c.until-end.result
    c.run.ensures.place c.from-rest.ensures c.until-end.ensures.place c.from.ensures (search rules)
