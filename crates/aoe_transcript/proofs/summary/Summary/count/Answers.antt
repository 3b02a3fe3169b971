use Rattle.aoe_transcript.proofs.CountLemmas.{arrived_counts}
use Rattle.aoe_transcript.proofs.summary.Summary.count.Goals as goal

pub returns-in-Arrived : goal.returns-in-Arrived
returns-in-Arrived c = λ events h is again.
    rw c.in-Arrived.is
    (arrived_counts c.args.self.now events c.replies.result c.in-Arrived.dev c.in-Arrived.frame c.in-Arrived.fate h is
    (c.replies.ensures.frames c.in-Arrived.dev c.in-Arrived.frame h))
