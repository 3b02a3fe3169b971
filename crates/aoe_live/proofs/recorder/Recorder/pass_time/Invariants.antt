use Rattle.std.proofs.Common.{◌≡◌, []}
use Rattle.aoe_live.specs.Recorder.{IsKept}
use Rattle.aoe_live.specs.Steps.{links, Recorded}
use Rattle.aoe_live.proofs.TickLemmas.{whole}
use Rattle.aoe_live.proofs.recorder.Recorder.pass_time.Given as goal

abbrev pub invariant-ticks : goal.invariant-ticks
invariant-ticks g l = record {
  kept : IsKept l.self;
  recorded : Recorded [] [] (whole l.counter) l.fn.self l.self (links g.L.Link.turns g.L.Link.given g.L.Link.taken l.fn.one l.fn.two)
      (links g.L.Link.turns g.L.Link.given g.L.Link.taken l.one l.two);
  sectors : l.self.sectors ≡ l.fn.self.sectors;
  commands : l.self.commands ≡ l.fn.self.commands;
  faults_one : g.L.Link.faults l.one ≡ g.L.Link.faults l.fn.one;
  faults_two : g.L.Link.faults l.two ≡ g.L.Link.faults l.fn.two;
}
