-- The name stands before the first equals sign, or is all of the text.
use Rattle.std.proofs.Common.{rules}
use Rattle.aoe_args.proofs.PlaceLemmas.{name_at, name_none, name_whole}
use Rattle.aoe_args.proofs.word.option_name.Goals as goal

pub returns-in_default : goal.returns-in_default
returns-in_default c = name_none c.args.word.now (search rules)

pub returns-in-Some-place_of : goal.returns-in-Some-place_of
returns-in-Some-place_of c = name_at c.args.word.now c.in-Some.text.now c.in-Some-place_of.equals (search rules) (search rules)

pub returns-in-None : goal.returns-in-None
returns-in-None c = name_whole c.args.word.now c.in-Some.text.now (search rules) (search rules)
