use Rattle.std.proofs.Common.{◌≡◌, []}
use Rattle.aoe_copy.specs.Checking.{left_of, IsFit, SoFar}
use Rattle.aoe_copy.proofs.PutTurnLemmas.{seen_by}
use Rattle.aoe_copy.proofs.again.check_all.Given as goal

abbrev pub invariant-parts : goal.invariant-parts
invariant-parts g l = record {
  fit : IsFit l.course l.between;
  so : SoFar l.course (record { host = l.fn.host; log = [] }) l.front
      (seen_by (g.L.Link.turns l.fn.link) (g.L.Link.given l.fn.link) (g.L.Link.taken l.fn.link) (g.C.Clock.answers l.fn.clock) (g.S.Source.left l.fn.source))
      (seen_by (g.L.Link.turns l.link) (g.L.Link.given l.link) (g.L.Link.taken l.link) (g.C.Clock.answers l.clock) (g.S.Source.left l.source))
      l.between;
  faults : g.L.Link.faults l.link ≡ g.L.Link.faults l.fn.link;
  source_faults : g.S.Source.faults l.source ≡ g.S.Source.faults l.fn.source;
}

abbrev pub decreases-parts : goal.decreases-parts
decreases-parts g l = left_of l.course l.between
