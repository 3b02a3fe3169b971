use Rattle.std.proofs.Common.{◌∙◌, sym, ap, Some}
use Rattle.aoe_live.proofs.NewestLemmas.{matching-found, matching-none, matching-other}
use Rattle.aoe_live.specs.Frames.{frame_by}
use Rattle.aoe_live.proofs.frames.matching.Goals as goal

pub returns-in-None : goal.returns-in-None
returns-in-None c =
    let told = rw c.in-None.is at c.frame_by.ensures in
    sym (matching-none (frame_by c.args.sender c.args.entry.now) c.args.frame.now (sym told))

pub returns-then-eq : goal.returns-then-eq
returns-then-eq c =
    let told = rw c.in-Some.is at c.frame_by.ensures in
    ap Some c.number_of.ensures ∙ sym (matching-found c.args.sender c.args.entry.now _ c.args.frame.now (sym told) (sym c.eq.ensures ∙ c.if-eq.true))

pub returns-else-eq : goal.returns-else-eq
returns-else-eq c =
    let told = rw c.in-Some.is at c.frame_by.ensures in
    sym (matching-other (frame_by c.args.sender c.args.entry.now) _ c.args.frame.now (sym told) (sym c.eq.ensures ∙ c.if-eq.false))
