use Rattle.std.proofs.Common.{◌+◌, ◌∙◌, arith}
use Rattle.aoe_nbd_serve.proofs.StepLemmas.{at-most}
use Rattle.aoe_nbd_serve.proofs.serving.Serving.send_up_to.Goals as goal

pub returns-in-Err-clause-sends : goal.returns-in-Err-clause-sends
returns-in-Err-clause-sends g c = λ s seen before few serves.
    c.in-Err.ensures.sends s seen (before + c.frames.counter) (omega (arith, few, c.requires.few, c.frames-test.true)) (c.frames.invariant.so s seen before few serves)

pub frames-preserved : goal.frames-preserved
frames-preserved g c =
    let i = c.frames.invariant in
    record {
      fit = c.in-Ok-true.ensures.fit;
      conversation = c.in-Ok-true.ensures.conversation ∙ i.conversation;
      so = λ s seen before few serves.
          at-most _ (omega arith)
          (c.in-Ok-true.ensures.sends s seen (before + c.frames.counter) (omega (arith, few, c.requires.few, c.frames-test.true)) (i.so s seen before few serves));
      count = omega (arith, i.count);
      faults = c.in-Ok-true.ensures.link.no_fault (λ e. absurd cc) ∙ i.faults;
    }
