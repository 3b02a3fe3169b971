-- What clap says, as the definition puts it.
use Rattle.std.proofs.Common.{map, rules, string_bytes}
use Rattle.aoe_args.proofs.ParsedLemmas.{asked_value, not_words}
use Rattle.aoe_args.proofs.read.parsed.Goals as goal

pub returns-then-not-are_words-clause-value : goal.returns-then-not-are_words-clause-value
returns-then-not-are_words-clause-value c = not_words (map string_bytes c.args.words.now) (search rules)

pub returns-clause-value : goal.returns-clause-value
returns-clause-value c =
    asked_value (map string_bytes c.args.words.now) c.matches.result c.asked.result (search rules) c.matches.ensures.kinds c.matches.ensures.found
    c.asked.ensures.memory c.asked.ensures.words c.asked.ensures.found
