use Rattle.std.proofs.Common.{◌∙◌, refl, sym}
use Rattle.aoe_transcript.proofs.RunLemmas.{first_run}
use Rattle.aoe_transcript.proofs.runs.next_run.Goals as goal

pub returns-clause-run : goal.returns-clause-run
returns-clause-run c =
    first_run c.args.bytes.now c.from.result.now _ c.run-count.result (sym c.is_empty.ensures ∙ c.if-is_empty.false) refl
    c.run-count.ensures.place c.from.ensures
