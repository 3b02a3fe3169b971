use Rattle.std.proofs.Common.{ℕ, ◌≡◌, ◌≤◌, ◌+◌}
use Rattle.aoe_nbd_serve.specs.Account.{ServeSeen, Setting}
use Rattle.aoe_nbd_serve.specs.Serving.{at_link, IsFit, Serves}
use Rattle.aoe_nbd_serve.proofs.serving.Serving.send_up_to.Given as goal

abbrev pub invariant-frames : goal.invariant-frames
invariant-frames g l = record {
  fit : IsFit l.self;
  conversation : l.self.conversation ≡ l.fn.self.conversation;
  so : (c : Setting) (seen : ServeSeen) (before : ℕ) → before ≤ 64
      → Serves c (at_link seen (g.L.Link.turns l.fn.link) (g.L.Link.given l.fn.link) (g.L.Link.taken l.fn.link)) before l.fn.self
      → Serves c (at_link seen (g.L.Link.turns l.link) (g.L.Link.given l.link) (g.L.Link.taken l.link)) (before + l.counter) l.self;
  count : l.sent ≤ l.counter;
  faults : g.L.Link.faults l.link ≡ g.L.Link.faults l.fn.link;
}
