use Rattle.std.proofs.Common.{refl}
use Rattle.aoe_serve.proofs.RunLemmas.{round-noted}
use Rattle.aoe_serve.proofs.over_stream.hand.Goals as goal

pub returns-in-Replies-clause-round : goal.returns-in-Replies-clause-round
returns-in-Replies-clause-round g c =
    round-noted g.K.Sink.held g.K.Sink.faults _ _ c.in-Replies.is _ _ _ _ _ _ _ refl _ _ c.note-noted.ensures c.round.ensures.round

pub returns-in-Capture-clause-round : goal.returns-in-Capture-clause-round
returns-in-Capture-clause-round g c =
    round-noted g.K.Sink.held g.K.Sink.faults _ _ c.in-Capture.is _ _ _ _ _ _ _ refl _ _ c.note-noted.ensures
    c.round-in-Capture.ensures.round
