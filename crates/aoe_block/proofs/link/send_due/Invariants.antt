use Rattle.std.proofs.Common.{◌≡◌, length}
use Rattle.aoe_block.specs.Exchange.{Sends}
use Rattle.aoe_block.proofs.link.send_due.Given as goal

abbrev pub invariant-frames : goal.invariant-frames
invariant-frames g l = record {
  sent : (s : Sends l.fn.host l.host (g.L.Link.taken l.fn.link) (g.L.Link.taken l.link)) × (length s.sent ≡ l.counter);
  given : g.L.Link.given l.link ≡ g.L.Link.given l.fn.link;
  turns : g.L.Link.turns l.link ≡ g.L.Link.turns l.fn.link;
  faults : g.L.Link.faults l.link ≡ g.L.Link.faults l.fn.link;
}
