use Rattle.std.proofs.Common.{ℕ, ◌≡◌}
use Rattle.std.specs.Prelude.{is_some}
use Rattle.aoe_nbd_serve.specs.Account.{Setting}
use Rattle.aoe_nbd_serve.specs.Serving.{seen_by, IsFit, Serves}
use Rattle.aoe_nbd_serve.proofs.serving.Serving.run.Given as goal

abbrev pub invariant-turns : goal.invariant-turns
invariant-turns g l = record {
  fit : IsFit l.self;
  here : g.C.Clients.connected l.clients ≡ is_some l.self.conversation;
  so : (c : Setting) (most : ℕ)
      → Serves c
      (seen_by (g.L.Link.turns l.fn.link) (g.L.Link.given l.fn.link) (g.L.Link.taken l.fn.link) (g.K.Clock.answers l.fn.clock) (g.C.Clients.told l.fn.clients)
      (g.B.Bell.waits l.fn.bell) (g.E.Ending.answers l.fn.ending)) most l.fn.self
      → (n : ℕ)
      × Serves c
      (seen_by (g.L.Link.turns l.link) (g.L.Link.given l.link) (g.L.Link.taken l.link) (g.K.Clock.answers l.clock) (g.C.Clients.told l.clients)
      (g.B.Bell.waits l.bell) (g.E.Ending.answers l.ending)) n l.self;
  faults : g.L.Link.faults l.link ≡ g.L.Link.faults l.fn.link;
  client_faults : g.C.Clients.faults l.clients ≡ g.C.Clients.faults l.fn.clients;
}
