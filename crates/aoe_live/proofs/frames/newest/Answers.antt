use Rattle.std.proofs.Common.{◌∙◌, ◌+◌, drop, sym, refl, arith}
use Rattle.aoe_live.proofs.EntryLemmas.{entry-back}
use Rattle.aoe_live.proofs.NewestLemmas.{newest-found, newest-old, newest-on}
use Rattle.aoe_live.proofs.frames.newest.Goals as goal

pub returns-in-Some : goal.returns-in-Some
returns-in-Some c =
    let h = c.args.history.now in
    let at = entry-back h c.entries.back c.count.result c.entry-entry.result.now c.count.ensures
    (omega (arith, c.entries-test.true, c.count-back-end.ensures)) c.entry-entry.ensures in
    let found = sym c.matching.ensures ∙ c.in-Some.is in
    sym (c.entries.invariant ∙ newest-found c.args.sender c.entries.left (drop c.entries.back h)
    (drop (c.entries.back + 1) h) c.entry-entry.result.now c.args.frame.now at c.in-Some.number found)

pub returns-then-ms-left : goal.returns-then-ms-left
returns-then-ms-left c =
    let h = c.args.history.now in
    let at = entry-back h c.entries.back c.count.result c.entry-entry.result.now c.count.ensures
    (omega (arith, c.entries-test.true, c.count-back-end.ensures)) c.entry-entry.ensures in
    let other = sym c.matching.ensures ∙ c.in-None.is in
    sym (c.entries.invariant ∙ newest-old c.args.sender c.entries.left (drop c.entries.back h)
    (drop (c.entries.back + 1) h) c.entry-entry.result.now c.args.frame.now at other (omega (arith, c.if-ms-left.true, c.ms_of-ms.ensures)))

pub entries-preserved : goal.entries-preserved
entries-preserved c =
    let h = c.args.history.now in
    let at = entry-back h c.entries.back c.count.result c.entry-entry.result.now c.count.ensures
    (omega (arith, c.entries-test.true, c.count-back-end.ensures)) c.entry-entry.ensures in
    let other = sym c.matching.ensures ∙ c.in-None.is in
    c.entries.invariant ∙ newest-on c.args.sender c.entries.left (drop c.entries.back h)
    (drop (c.entries.back + 1) h) c.entry-entry.result.now c.args.frame.now at other (omega (arith, c.if-ms-left.false, c.ms_of-ms.ensures))
    ∙ rw (c.ms_of-ms.ensures) refl
