use Rattle.std.proofs.Common.{◌∙◌, arith, refl}
use Rattle.aoe_serve.proofs.RunLemmas.{begun, goes_on, ends, offset-fits, unbegun}
use Rattle.aoe_serve.proofs.TurnLemmas.{rest_then}
use Rattle.aoe_serve.proofs.over_stream.answer_as.Goals as goal

pub returns-in-Err-clause-run : goal.returns-in-Err-clause-run
returns-in-Err-clause-run g c = unbegun _ _ _ _ _ c.in-Err.ensures.some

pub frames-init : goal.frames-init
frames-init g c = (begun _ _ _ _ _ c.in-Ok.ensures.all, refl, refl, c.in-Ok.ensures.blame.no_fault (λ e. cc))

pub returns-in-Err-turn-clause-run : goal.returns-in-Err-turn-clause-run
returns-in-Err-turn-clause-run g c =
    ends _ _ _ _ _ _ _ _ _ _ c.frames.offset c.frames.count c.frames-test.true c.frames.invariant.0 c.in-Err-turn.end c.in-Err-turn.ensures.ends

pub overflow_add-offset : goal.overflow_add-offset
overflow_add-offset g c =
    let t = c.in-Ok-turn.ensures.turned in
    omega (arith, offset-fits _ _ _ _ _ _ _ c.frames.offset c.frames.count c.frames.invariant.0, t.long, t.whole.short)

pub frames-preserved : goal.frames-preserved
frames-preserved g c = (
  goes_on _ _ _ _ _ _ _ _ _ _ c.frames.offset c.frames.count _ c.frames.invariant.0 c.in-Ok-turn.ensures.turned,
  rest_then c.args.shelf.now c.frames.shelf c.turn.new.shelf c.frames.invariant.1 c.turn.ensures.rest,
  c.in-Ok-turn.ensures.source_blame.no_fault (λ e. cc) ∙ c.frames.invariant.2,
  c.in-Ok-turn.ensures.sink_blame.no_fault (λ e. cc) ∙ c.frames.invariant.3,
)
