use Rattle.std.proofs.Common.{ℕ, ◌≡◌}
use Rattle.aoe_nbd_serve.specs.Account.{ServeSeen, Setting}
use Rattle.aoe_nbd_serve.specs.Serving.{IsFit, Serves}
use Rattle.aoe_nbd_serve.proofs.serving.Serving.submit_some.Given as goal

abbrev pub invariant-operations : goal.invariant-operations
invariant-operations l = record {
  fit : IsFit l.self;
  conversation : l.self.conversation ≡ l.fn.self.conversation;
  so : (c : Setting) (seen : ServeSeen) (most : ℕ) → Serves c seen most l.fn.self → Serves c seen most l.self;
}
