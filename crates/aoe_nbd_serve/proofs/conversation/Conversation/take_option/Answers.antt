use Rattle.std.proofs.Common.{◌∙◌, ℕ, List, subst, sym}
use Rattle.aoe_nbd.specs.Handshakes.{Proceeds}
use Rattle.aoe_nbd_serve.specs.declared.phase.Phase.{Phase}
use Rattle.aoe_nbd_serve.specs.Asking.{IsKeptIn}
use Rattle.aoe_nbd_serve.proofs.TalkLemmas.{heard-on, kept-behind, none-left}
use Rattle.aoe_nbd_serve.proofs.conversation.Conversation.take_option.Goals as goal

pub invariant_of-self-2 : goal.invariant_of-self-2
invariant_of-self-2 c =
    let e = c.self.inside.export.now in
    let kept = subst (λ (p : Phase). IsKeptIn e p c.self.inside.coming) c.in-Handshake.is c.self.invariant in
    subst (λ (p : Phase). IsKeptIn e p c.self.inside.coming) (sym c.note_heard.ensures)
    (kept-behind e c.take-taken.result.event c.in-Handshake.handshake c.take-taken.new.handshake c.self.inside.coming kept)

pub returns : goal.returns
returns c = record {
  leads = λ d. heard-on _ c.args.self.now c.in-Handshake.handshake c.take-taken.new.handshake c.take-taken.result.len c.take-taken.result.event c.note_heard.new.phase c.drop_front.new.self
      c.take-taken.new.self c.has_begun-self-inside.result d c.self.view_is c.in-Handshake.is (none-left c.self.inside.answer (sym c.is_sent.ensures ∙ c.if-not-is_sent.false))
      (λ talk leads. subst (λ (x : List ℕ). Proceeds c.self.inside.export.now talk c.in-Handshake.handshake x c.take-taken.result.len c.take-taken.result.event c.take-taken.new.self c.take-taken.new.handshake)
      c.bytes.ensures (c.take-taken.ensures.proceeds talk leads)) c.note_heard.ensures c.drop_front.ensures c.has_begun-self-inside.ensures;
}
