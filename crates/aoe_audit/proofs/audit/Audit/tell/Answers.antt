use Rattle.std.proofs.Common.{◌∙◌, List, ap, subst, ℕ}
use Rattle.std.specs.Prelude.{IfOk, OnErr}
use Rattle.aoe_audit.specs.Auditing.{Auditing}
use Rattle.aoe_audit.specs.Captured.{Packet}
use Rattle.aoe_audit.specs.Known.{IsAllowed, IsKnown, IsTold}
use Rattle.aoe_audit.proofs.audit.Audit.tell.Goals as goal

pub returns-clause-told : goal.returns-clause-told
returns-clause-told c = λ k known.
    let S = c.self.inside.judge in
    subst (λ (a : Auditing). IsKnown a.knowing k
    → IfOk c.tell.result (IsTold a.station k c.args.request.now.frame c.args.reply.now a.knowing c.tell.new.self.knowing))
    c.self.view_is
    (λ own.
    subst (λ (f : List ℕ). IfOk c.tell.result (IsTold S.station k f c.args.reply.now S.knowing c.tell.new.self.knowing))
    (c.bytes.ensures ∙ ap (λ (p : Packet). p.frame) c.request.view_is) (c.tell.ensures.told k own)) known

pub returns-clause-memory : goal.returns-clause-memory
returns-clause-memory c = λ k known.
    let S = c.self.inside.judge in
    subst (λ (a : Auditing). IsKnown a.knowing k → OnErr c.tell.result (IsAllowed a.station k c.args.request.now.frame c.args.reply.now)) c.self.view_is
    (λ own.
    subst (λ (f : List ℕ). OnErr c.tell.result (IsAllowed S.station k f c.args.reply.now))
    (c.bytes.ensures ∙ ap (λ (p : Packet). p.frame) c.request.view_is) (c.tell.ensures.memory k own)) known
