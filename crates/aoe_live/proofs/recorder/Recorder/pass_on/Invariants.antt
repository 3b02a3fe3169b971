use Rattle.std.proofs.Common.{◌≡◌}
use Rattle.aoe_live.proofs.PassLemmas.{Passing}
use Rattle.aoe_live.proofs.recorder.Recorder.pass_on.Given as goal

abbrev pub invariant-entries : goal.invariant-entries
invariant-entries g l = record {
  passing : Passing l.fn.self.world.entries l.fn.self.told l.i l.self.tally (g.L.Link.taken l.fn.one) (g.L.Link.taken l.one) (g.L.Link.taken l.fn.two)
      (g.L.Link.taken l.two);
  rest : l.self ≡ record l.fn.self { tally = l.self.tally };
  given_one : g.L.Link.given l.one ≡ g.L.Link.given l.fn.one;
  given_two : g.L.Link.given l.two ≡ g.L.Link.given l.fn.two;
  turns_one : g.L.Link.turns l.one ≡ g.L.Link.turns l.fn.one;
  turns_two : g.L.Link.turns l.two ≡ g.L.Link.turns l.fn.two;
  faults_one : g.L.Link.faults l.one ≡ g.L.Link.faults l.fn.one;
  faults_two : g.L.Link.faults l.two ≡ g.L.Link.faults l.fn.two;
}
