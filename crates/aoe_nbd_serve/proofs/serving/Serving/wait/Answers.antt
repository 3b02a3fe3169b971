use Rattle.std.proofs.Common.{sym, ap, ◌∙◌, arith}
use Rattle.aoe_nbd_serve.specs.declared.terms.Asked.TheVariants as cause
use Rattle.aoe_nbd_serve.specs.declared.terms.Terms.{Terms}
use Rattle.aoe_nbd_serve.proofs.EndSteps.{ended-by, waited-one}
use Rattle.aoe_nbd_serve.proofs.RunLemmas.{is-nothing}
use Rattle.aoe_nbd_serve.proofs.serving.Serving.wait.Goals as goal

pub returns-then-is_some-clause-waits : goal.returns-then-is_some-clause-waits
returns-then-is_some-clause-waits g c = λ setting seen most s.
    waited-one seen c.args.self.now s c.wait_of.result.0 c.args.self.now.waits c.wait_of.ensures (omega arith) c.wait.ensures

pub returns-then-is_some-2-clause-waits : goal.returns-then-is_some-2-clause-waits
returns-then-is_some-2-clause-waits g c = λ setting seen most s.
    waited-one seen c.args.self.now s c.wait_of.result.0 c.saturating_add-self.result c.wait_of.ensures (omega (arith, c.saturating_add-self.ensures)) c.wait.ensures

pub returns-clause-waits : goal.returns-clause-waits
returns-clause-waits g c = λ setting seen most s.
    let x = c.args.self.now in
    let n = c.saturating_add-self.result in
    let s' = waited-one seen x s c.wait_of.result.0 n c.wait_of.ensures (omega (arith, c.saturating_add-self.ensures)) c.wait.ensures in
    let idle = ap (λ (t : Terms). t.idle) s'.keeps.terms_is in
    ended-by (record x { waits = n }) s' cause.Idle (is-nothing x.asked (sym c.if-is_some-2.ensures)) (
      sym s'.keeps.talk_is ∙ is-nothing x.conversation (sym c.if-is_some.ensures),
      omega (arith, idle, c.if-self-eq0.false),
      omega (arith, idle, c.if-self.false, s'.keeps.waits),
    )
