use Rattle.aoe_transcript.proofs.CountLemmas.{seen_more}
use Rattle.aoe_transcript.proofs.counts.sends_again.Goals as goal

pub returns : goal.returns
returns c = λ h has.
    rw c.in-Sent.is (seen_more c.args.seen.now c.insert.new.self c.in-Sent.host c.as_slice.result c.in-Sent.ticket c.in-Sent.frame c.in-Sent.bytes
    c.in_ok-is_new.is_new h c.as_slice.ensures.value c.in_ok-is_new.ensures.added c.in_ok-is_new.ensures.updates has)
