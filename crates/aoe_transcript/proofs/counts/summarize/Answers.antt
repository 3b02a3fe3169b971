use Rattle.std.proofs.Common.{List, reverse, take, arith}
use Rattle.aoe_history.specs.declared.entry.Entry.{Entry}
use Rattle.aoe_transcript.proofs.CountLemmas.{counts_fit, one_later, so_far_short}
use Rattle.aoe_transcript.proofs.counts.summarize.Goals as goal

pub count-requires : goal.count-requires
count-requires c = rw c.entries.invariant.counted
    (counts_fit 18446744073709551615 c.args.events _ (so_far_short 18446744073709551615 c.entries.i (reverse c.args.history.now) (omega arith)))

pub entries-preserved : goal.entries-preserved
entries-preserved c =
    let so_far : List Entry = reverse (take c.entries.i (reverse c.args.history.now)) in
    let later = one_later (reverse c.args.history.now) c.entries.i c.entry-entry.result.now c.entry-entry.ensures in
    let said = c.in_ok-again.ensures so_far c.entries.invariant.has_sent in
    record {
      counted = rw later (c.count.ensures c.args.events so_far c.entries.invariant.counted said.0);
      has_sent = rw later said.1;
    }
