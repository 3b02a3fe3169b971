use Rattle.std.proofs.Common.{◌≡◌, List, true}
use Rattle.aoe_block.specs.Steps.{has_ticked, GoesOn, Seen}
use Rattle.aoe_copy.specs.Feed.{ahead}
use Rattle.aoe_copy.specs.PutSteps.{PutStep}
use Rattle.aoe_copy.specs.Putting.{reads_left, Asked, IsFit, Keeps, Setting, Stands}
use Rattle.aoe_copy.proofs.putting.Putting.read_all.Given as goal

abbrev pub invariant-parts : goal.invariant-parts
invariant-parts g l = record {
  fit : IsFit l.self;
  waiting : l.self.host.waiting ≡ l.fn.self.host.waiting;
  asked : (c : Setting) (seen : Seen) (steps : List PutStep)
      → Stands c (record { link = seen; left = g.S.Source.left l.fn.source }) (ahead l.fn.self.feed) steps
      → Keeps c steps l.fn.self → GoesOn steps → has_ticked steps ≡ true → Asked c (record { link = seen; left = g.S.Source.left l.source }) steps l.self;
  faults : g.S.Source.faults l.source ≡ g.S.Source.faults l.fn.source;
}

abbrev pub decreases-parts : goal.decreases-parts
decreases-parts g l = reads_left l.self
