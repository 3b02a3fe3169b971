use Rattle.aoe_transcript.proofs.SubmissionLemmas.{line_asks}
use Rattle.aoe_transcript.proofs.laws.submitted_lines_ask.Goals as goal

pub returns : goal.returns
returns c = line_asks
