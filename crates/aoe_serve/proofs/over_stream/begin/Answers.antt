use Rattle.aoe_serve.proofs.RunLemmas.{header-all, header-some}
use Rattle.aoe_serve.proofs.over_stream.begin.Goals as goal

pub returns-in-Capture-clause-all : goal.returns-in-Capture-clause-all
returns-in-Capture-clause-all g c = header-all c.args.format c.in-Capture.is _ _ _ c.give_head.ensures.all

pub returns-in-Capture-clause-some : goal.returns-in-Capture-clause-some
returns-in-Capture-clause-some g c = header-some c.args.format c.in-Capture.is _ _ _ c.give_head.ensures.some
