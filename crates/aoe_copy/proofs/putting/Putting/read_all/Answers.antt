use Rattle.std.proofs.Common.{refl, ◌∙◌}
use Rattle.aoe_copy.proofs.PutStepLemmas.{asked-self, asked-then, goes-on}
use Rattle.aoe_copy.proofs.putting.Putting.read_all.Goals as goal

pub parts-init : goal.parts-init
parts-init g c = record {
  fit = c.requires.fit;
  waiting = refl;
  asked = λ s seen steps stands keeps well ticked. asked-self stands keeps ticked;
  faults = refl;
}

pub parts-preserved : goal.parts-preserved
parts-preserved g c =
    let i = c.parts.invariant in
    record {
      fit = c.in-Ok.ensures.fit;
      waiting = c.in-Ok.ensures.waiting ∙ i.waiting;
      asked = λ s seen steps stands keeps well ticked.
          let w = i.asked s seen steps stands keeps well ticked in
          asked-then w (c.in-Ok.ensures.reads s seen w.steps' w.stands w.keeps (goes-on w well) w.ticked);
      faults = c.in-Ok.ensures.source.no_fault (λ e. absurd cc) ∙ i.faults;
    }
