use Rattle.std.proofs.Common.{◌==◌, rules}
use Rattle.aoe_script.proofs.SplitLemmas.{first_or_end}
use Rattle.aoe_script.proofs.cuts.until.Goals as goal

pub returns-clause-place : goal.returns-clause-place
returns-clause-place c = (first_or_end (λ b. b == c.args.byte) c.args.text.now _ (search rules)).0

pub returns-clause-within : goal.returns-clause-within
returns-clause-within c = (first_or_end (λ b. b == c.args.byte) c.args.text.now _ (search rules)).1
