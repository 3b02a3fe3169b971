use Rattle.std.proofs.Common.{◌≡◌, ◌∙◌, sym, true, false}
use Rattle.aoe_clients.specs.declared.clients.Moved.TheVariants as moved
use Rattle.aoe_nbd_serve.specs.Conversations.{is_reading}
use Rattle.aoe_nbd_serve.proofs.TalkLemmas.{goes-nothing, goes-on, goes-self, leaves, reads-on, turned}
use Rattle.aoe_nbd_serve.proofs.conversation.Conversation.read_some.Goals as goal

pub returns-then-not-is_reading-clause-turns : goal.returns-then-not-is_reading-clause-turns
returns-then-not-is_reading-clause-turns g c = λ d. turned _ _ false _ _ _ _ (goes-self _ _ d)

pub returns-in-Bytes-clause-turns : goal.returns-in-Bytes-clause-turns
returns-in-Bytes-clause-turns g c = λ d.
    let on : is_reading c.self.inside.phase ≡ true = sym c.is_reading.ensures ∙ c.if-not-is_reading.false in
    turned _ _ true _ _ _ _ (goes-on _ _ c.in-Bytes.field-0 _ _ _ _
    (reads-on _ _ (moved.Bytes c.in-Bytes.field-0) _ c.args.self.now c.read_from.new.self d c.self.view_is c.in-Bytes.ensures.reads on))

pub returns-in-Nothing-clause-turns : goal.returns-in-Nothing-clause-turns
returns-in-Nothing-clause-turns g c = λ d.
    let on : is_reading c.self.inside.phase ≡ true = sym c.is_reading.ensures ∙ c.if-not-is_reading.false in
    turned _ _ false _ _ _ _ (goes-nothing _ _ _ _ _ _
    (reads-on _ _ moved.Nothing _ c.args.self.now c.read_from.new.self d c.self.view_is c.in-Nothing.ensures.reads on))

pub returns-in-Left-clause-turns : goal.returns-in-Left-clause-turns
returns-in-Left-clause-turns g c = λ d.
    let on : is_reading c.self.inside.phase ≡ true = sym c.is_reading.ensures ∙ c.if-not-is_reading.false in
    leaves _ _ _ _ _ _ (reads-on _ _ moved.Left _ c.args.self.now c.read_from.new.self d c.self.view_is c.in-Left.ensures.reads on)
