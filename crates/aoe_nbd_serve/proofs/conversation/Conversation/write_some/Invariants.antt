use Rattle.std.proofs.Common.{◌≡◌, true}
use Rattle.aoe_nbd_serve.proofs.TalkLemmas.{Goes}
use Rattle.aoe_nbd_serve.proofs.conversation.Conversation.write_some.Given as goal

abbrev pub invariant-pieces : goal.invariant-pieces
invariant-pieces g l = record {
  goes : Goes (g.C.Clients.told l.fn.clients) (g.C.Clients.told l.clients) l.fn.self l.fn.desk l.self l.desk;
  connected : g.C.Clients.connected l.clients ≡ true;
  no_fault : g.C.Clients.faults l.clients ≡ g.C.Clients.faults l.fn.clients;
}
