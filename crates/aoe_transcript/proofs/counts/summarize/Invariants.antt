use Rattle.std.proofs.Common.{◌≡◌, reverse, take}
use Rattle.aoe_transcript.specs.Counting.{HasSent}
use Rattle.aoe_transcript.specs.Counts.{summary_of}
use Rattle.aoe_transcript.proofs.counts.summarize.Given as goal

abbrev pub invariant-entries : goal.invariant-entries
invariant-entries l = record {
  counted : l.counts ≡ summary_of l.events (reverse (take l.i (reverse l.history)));
  has_sent : HasSent l.seen (reverse (take l.i (reverse l.history)));
}
