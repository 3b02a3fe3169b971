use Rattle.std.proofs.Common.{◌≡◌, ◌++◌, length}
use Rattle.aoe_transcript.proofs.RunLemmas.{behind}
use Rattle.aoe_transcript.specs.Print.{runs_text}
use Rattle.aoe_transcript.specs.Runs.{longest_runs}
use Rattle.aoe_transcript.proofs.runs.put_runs.Given as goal

abbrev pub invariant-runs : goal.invariant-runs
invariant-runs l = l.fn.out.items ++ runs_text l.bytes ≡ l.out.items ++ behind (longest_runs l.rest)

abbrev pub decreases-runs : goal.decreases-runs
decreases-runs l = length l.rest
