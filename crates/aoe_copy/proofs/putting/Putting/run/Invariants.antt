use Rattle.std.proofs.Common.{◌≡◌, ◌≤◌, ◌+◌, ◌*◌, ◌-◌}
use Rattle.aoe_copy.specs.PutRuns.{PutSetting}
use Rattle.aoe_copy.specs.Putting.{left_now, Begins, IsFit}
use Rattle.aoe_copy.proofs.PutTurnLemmas.{seen_by, So}
use Rattle.aoe_copy.proofs.putting.Putting.run.Given as goal

abbrev pub invariant-turns : goal.invariant-turns
invariant-turns g l = record {
  fit : IsFit l.self;
  so : (p : PutSetting) → Begins p l.fn.self → p.turns ≡ l.turns
      → So
      (record {
        put = p;
        before = seen_by (g.L.Link.turns l.fn.link) (g.L.Link.given l.fn.link) (g.L.Link.taken l.fn.link) (g.C.Clock.answers l.fn.clock)
            (g.S.Source.left l.fn.source);
      })
      l.quiet
      (seen_by (g.L.Link.turns l.link) (g.L.Link.given l.link) (g.L.Link.taken l.link) (g.C.Clock.answers l.clock) (g.S.Source.left l.source))
      l.self;
  within : l.quiet ≤ l.turns;
  faults : g.L.Link.faults l.link ≡ g.L.Link.faults l.fn.link;
  source_faults : g.S.Source.faults l.source ≡ g.S.Source.faults l.fn.source;
}

abbrev pub decreases-turns : goal.decreases-turns
decreases-turns g l = left_now l.self * (l.turns + 1) + (l.turns - l.quiet)
