use Rattle.aoe_transcript.proofs.LawfulLemmas.{prints}
use Rattle.aoe_transcript.proofs.laws.lawful_histories_print.Goals as goal

pub returns : goal.returns
returns c = prints
