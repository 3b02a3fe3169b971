use Rattle.std.proofs.Common.{sym, arith, ◌∙◌}
use Rattle.aoe_block.proofs.CallLemmas.{ended_keeps, ended_settle, ended_took, failed_keeps, failed_settle, failed_took, not_stranger, part_left, TakesPart}
use Rattle.aoe_block.proofs.SoundLemmas.{sound_first, stranger, stranger_same}
use Rattle.aoe_block.proofs.block.Block.take.Goals as goal
use Rattle.aoe_block.proofs.block.Block.take.Goals.{After-is_success}

pub returns-in_default-clause-took : goal.returns-in_default-clause-took
returns-in_default-clause-took c =
    let b = c.self.inside in
    rw (← c.self.view_is, stranger c.args.done.ticket.0 b.max b.at b.count b.stages.items b.bytes (rw c.deref-2.ensures.value at c.in_default.ensures.none))

pub returns-in_default-clause-parts : goal.returns-in_default-clause-parts
returns-in_default-clause-parts c =
    let b = c.self.inside in
    rw (← c.self.view_is, stranger_same b.write c.args.done b.max b.at b.count b.stages.items b.bytes (rw c.deref-2.ensures.value at c.in_default.ensures.none))

-- the command that ended is the part that was found
taken : (c : After-is_success)
    → TakesPart c.self.inside.total c.self.inside.max c.self.inside.at c.self.inside.count c.self.inside.bytes c.self.inside.stages.items
    c.first_under_way-self-inside.result c.self.inside.next c.self.inside.left
    c.self.inside.write c.args.done c.in-Some.k c.is_success.result
taken c =
    let first = c.first_under_way-self-inside in
    record {
      sound = sound_first c.self.invariant first.result (rw c.deref.ensures.value at first.ensures.past) first.ensures.ordered;
      handed = rw c.deref-2.ensures.value at c.in-Some.ensures.found;
      answer = rw c.part_span-span.ensures at (sym c.is_success.ensures);
    }

pub invariant_of-self-then-not-is_success : goal.invariant_of-self-then-not-is_success
invariant_of-self-then-not-is_success c = failed_keeps (taken (goal.at.invariant_of-self-then-not-is_success c).After-is_success) c.mark.ensures

pub returns-then-not-is_success-clause-took : goal.returns-then-not-is_success-clause-took
returns-then-not-is_success-clause-took c =
    rw (← c.self.view_is) (sym (failed_took (taken (goal.at.returns-then-not-is_success-clause-took c).After-is_success) c.if-not-is_success.true))

pub returns-then-not-is_success-clause-parts : goal.returns-then-not-is_success-clause-parts
returns-then-not-is_success-clause-parts c =
    rw (← c.self.view_is) (failed_settle (taken (goal.at.returns-then-not-is_success-clause-parts c).After-is_success) c.if-not-is_success.true c.mark.ensures)

pub returns-then-not-is_success-clause-stranger : goal.returns-then-not-is_success-clause-stranger
returns-then-not-is_success-clause-stranger c none =
    absurd (not_stranger (taken (goal.at.returns-then-not-is_success-clause-stranger c).After-is_success) (rw (← c.self.view_is) at none))

pub overflow_sub-self : goal.overflow_sub-self
overflow_sub-self c = let h = part_left (taken (goal.at.overflow_sub-self c).After-is_success) in omega (arith, h)

pub invariant_of-self-2 : goal.invariant_of-self-2
invariant_of-self-2 c = ended_keeps (taken (goal.at.invariant_of-self-2 c).After-is_success) c.if-not-is_success.false c.mark-2.ensures c.lay.ensures

pub returns-clause-took : goal.returns-clause-took
returns-clause-took c = rw (← c.self.view_is)
    (c.success.ensures ∙ sym (ended_took (taken (goal.at.returns-clause-took c).After-is_success) c.if-not-is_success.false))

pub returns-clause-parts : goal.returns-clause-parts
returns-clause-parts c =
    rw (← c.self.view_is) (ended_settle (taken (goal.at.returns-clause-parts c).After-is_success) c.if-not-is_success.false c.mark-2.ensures c.lay.ensures)

pub returns-clause-stranger : goal.returns-clause-stranger
returns-clause-stranger c none =
    absurd (not_stranger (taken (goal.at.returns-clause-stranger c).After-is_success) (rw (← c.self.view_is) at none))
