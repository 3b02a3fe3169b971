use Rattle.aoe_transcript.proofs.RunLemmas.{text_begins}
use Rattle.aoe_transcript.proofs.runs.put_runs.Goals as goal

pub runs-init : goal.runs-init
runs-init c =
    text_begins c.args.out.now.items c.put_repeated.new.out.items c.args.bytes.now c.in-Some.rest.now _ c.in-Some.ensures.run c.in_ok-put_repeated.ensures
