use Rattle.std.proofs.Common.{length}
use Rattle.aoe_script.proofs.ScriptLemmas.{AreRead}
use Rattle.aoe_script.proofs.script.read_lines.Given as goal

abbrev pub invariant-lines : goal.invariant-lines
invariant-lines l = AreRead l.fn.text l.rest l.number l.script

abbrev pub decreases-lines : goal.decreases-lines
decreases-lines l = length l.rest
