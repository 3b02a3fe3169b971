use Rattle.std.proofs.Common.{◌≡◌, ◌≤◌, ◌+◌, ◌*◌, ◌-◌, length}
use Rattle.std.specs.Prelude.{IfSome}
use Rattle.aoe_live.specs.Recorder.{IsKept}
use Rattle.aoe_live.specs.Rounds.{wire}
use Rattle.aoe_live.specs.Whole.{outside}
use Rattle.aoe_live.proofs.RoundLemmas.{Going}
use Rattle.aoe_live.proofs.recorder.Recorder.run.Given as goal

abbrev pub invariant-turns : goal.invariant-turns
invariant-turns g l = record {
  kept : IsKept l.self;
  going : Going l.fn.self.sectors l.fn.self.commands l.turns l.quiet l.last l.self.world.entries l.self.script.events
      (outside (wire (g.L.Link.turns l.fn.one) (g.L.Link.given l.fn.one) (g.L.Link.taken l.fn.one))
      (wire (g.L.Link.turns l.fn.two) (g.L.Link.given l.fn.two) (g.L.Link.taken l.fn.two)) (g.C.Clock.answers l.fn.clock))
      (outside (wire (g.L.Link.turns l.one) (g.L.Link.given l.one) (g.L.Link.taken l.one))
      (wire (g.L.Link.turns l.two) (g.L.Link.given l.two) (g.L.Link.taken l.two)) (g.C.Clock.answers l.clock));
  within : l.quiet ≤ l.turns;
  later : IfSome l.last (λ last. last ≤ g.C.Clock.least l.clock);
  sectors : l.self.sectors ≡ l.fn.self.sectors;
  commands : l.self.commands ≡ l.fn.self.commands;
  faults_one : g.L.Link.faults l.one ≡ g.L.Link.faults l.fn.one;
  faults_two : g.L.Link.faults l.two ≡ g.L.Link.faults l.fn.two;
}

abbrev pub decreases-turns : goal.decreases-turns
decreases-turns g l = (50000 - length l.self.script.events) * (l.turns + 1) + (l.turns - l.quiet)
