use Rattle.aoe_script.proofs.ScriptLemmas.{too_long}
use Rattle.aoe_script.proofs.script.read_script.Goals as goal

pub returns-then-text-gt-LONGEST_TEXT-clause-cause : goal.returns-then-text-gt-LONGEST_TEXT-clause-cause
returns-then-text-gt-LONGEST_TEXT-clause-cause c = too_long c.args.text.now c.if-text-gt-LONGEST_TEXT.true
