use Rattle.std.proofs.Common.{◌∙◌, refl}
use Rattle.aoe_serve.proofs.LinkLemmas.{begun, breaks, falls_silent, goes_on, link_ends, link_fails, sent, still}
use Rattle.aoe_serve.specs.OutletLaws.{same_faults}
use Rattle.aoe_serve.proofs.TurnLemmas.{rest_then}
use Rattle.aoe_serve.proofs.over_link.serve.Goals as goal

pub frames-init : goal.frames-init
frames-init g c = (
  begun c.args.frames c.args.idle (g.L.Link.turns c.args.link.now) (g.L.Link.given c.args.link.now) (g.L.Link.taken c.args.link.now) _,
  refl,
  refl,
)

pub returns-in-Ok-Quiet-clause-run : goal.returns-in-Ok-Quiet-clause-run
returns-in-Ok-Quiet-clause-run g c =
    falls_silent c.frames-test.true (still c.frames.invariant.0 c.wait.ensures.taken) c.wait.new.out.items
    (rw c.in-Ok-Quiet.field-0-is at c.in-Ok-Quiet.ensures.waited)

pub returns-in-Ok-Ended-clause-run : goal.returns-in-Ok-Ended-clause-run
returns-in-Ok-Ended-clause-run g c =
    link_ends c.frames-test.true (still c.frames.invariant.0 c.wait.ensures.taken) c.wait.new.out.items
    (rw c.in-Ok-Ended.field-0-is at c.in-Ok-Ended.ensures.waited)

pub returns-in-Err-clause-run : goal.returns-in-Err-clause-run
returns-in-Err-clause-run g c =
    link_fails c.frames-test.true (still c.frames.invariant.0 c.wait.ensures.taken) c.wait.new.out.items c.in-Err.field-0 c.in-Err.ensures.waited

pub returns-in-Err-round-clause-run : goal.returns-in-Err-round-clause-run
returns-in-Err-round-clause-run g c =
    let r = rw c.as_slice.ensures.value at c.round.ensures.round in
    rw (r.took.same_turns, r.took.same_given)
    (breaks c.frames-test.true (still c.frames.invariant.0 c.wait.ensures.taken) _ _ c.wait.new.out.items
    (rw c.in-Ok-Frame.field-0-is at c.in-Ok-Frame.ensures.waited) c.in-Err-round.field-0 (sent r c.in-Err-round.is))

pub frames-preserved : goal.frames-preserved
frames-preserved g c =
    let r = rw c.as_slice.ensures.value at c.round.ensures.round in (
      rw (r.took.same_turns, r.took.same_given)
          (goes_on c.frames-test.true (still c.frames.invariant.0 c.wait.ensures.taken) _ _ c.wait.new.out.items
          (rw c.in-Ok-Frame.field-0-is at c.in-Ok-Frame.ensures.waited) (sent r c.in-Ok.is)),
      rest_then c.args.shelf.now c.frames.shelf c.round.new.shelf c.frames.invariant.1 c.round.ensures.rest,
      same_faults c.round.result _ _ c.in-Ok.is r.took.counts ∙ c.in-Ok-Frame.ensures.link_blame.no_fault (λ e. cc) ∙ c.frames.invariant.2,
    )
