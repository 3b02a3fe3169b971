use Rattle.std.proofs.Common.{◌∙◌}
use Rattle.aoe_nbd_serve.proofs.TalkLemmas.{goes-nothing, goes-on, goes-then, goes-turn, leaves, turned}
use Rattle.aoe_nbd_serve.proofs.conversation.Conversation.write_some.Goals as goal

pub returns-in-Nothing-clause-turns : goal.returns-in-Nothing-clause-turns
returns-in-Nothing-clause-turns g c =
    turned _ _ c.pieces.is_written _ _ _ _ (goes-then _ _ _ _ _ _ _ _ _ c.pieces.invariant.goes (goes-nothing _ _ _ _ _ _ c.in-Nothing.ensures.leads))

pub returns-in-Left-clause-turns : goal.returns-in-Left-clause-turns
returns-in-Left-clause-turns g c = goes-turn _ _ _ _ _ _ _ _ _ _ c.pieces.invariant.goes (leaves _ _ _ _ _ _ c.in-Left.ensures.leads)

pub pieces-preserved : goal.pieces-preserved
pieces-preserved g c = record {
  goes = goes-then _ _ _ _ _ _ _ _ _ c.pieces.invariant.goes (goes-on _ _ c.in-Bytes.field-0 _ _ _ _ c.in-Bytes.ensures.leads);
  connected = c.in-Bytes.ensures.connected;
  no_fault = c.in-Bytes.ensures.no_fault ∙ c.pieces.invariant.no_fault;
}
