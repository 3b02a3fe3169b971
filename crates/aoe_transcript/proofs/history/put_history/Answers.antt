use Rattle.std.proofs.Common.{reverse}
use Rattle.aoe_transcript.specs.Print.{entry_text, CanPrint}
use Rattle.aoe_transcript.proofs.HistoryLemmas.{all_of, one_more}
use Rattle.aoe_transcript.proofs.history.put_history.Goals as goal

pub put_line-requires : goal.put_line-requires
put_line-requires c = all_of CanPrint c.args.history.now c.entries.i c.entry.result.now c.requires c.entry.ensures

pub entries-preserved : goal.entries-preserved
entries-preserved c =
    one_more entry_text (reverse c.args.history.now) c.entries.i c.entry.result.now c.args.out.now.items c.entries.out.items c.put_line.new.out.items
    c.entry.ensures c.entries.invariant c.in_ok-put_line.ensures
