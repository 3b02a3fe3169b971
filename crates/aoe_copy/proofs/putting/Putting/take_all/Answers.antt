use Rattle.std.proofs.Common.{refl, sym, ap, ◌∙◌}
use Rattle.aoe_initiator.specs.Host.{Host}
use Rattle.aoe_copy.specs.declared.putting.Putting.{Putting}
use Rattle.aoe_copy.proofs.OutcomeLemmas.{fails-next, order-next, order-over}
use Rattle.aoe_copy.proofs.putting.Putting.take_all.Goals as goal

pub outcomes-init : goal.outcomes-init
outcomes-init c = record { order = λ outs order. order; host = refl; same = refl; matches = λ log m. m }

pub returns-in-Some-failure-clause-takes : goal.returns-in-Some-failure-clause-takes
returns-in-Some-failure-clause-takes c = λ outs order.
    fails-next (c.outcomes.invariant.order outs order) c.in-Some.ensures.first c.args.turns c.in-Some-failure.refusal
    (sym c.failure.ensures ∙ c.in-Some-failure.is)

pub outcomes-preserved : goal.outcomes-preserved
outcomes-preserved c =
    let i = c.outcomes.invariant in
    record {
      order = λ outs order. order-next (i.order outs order) c.in-Some.ensures.first c.args.turns (sym c.failure.ensures ∙ c.in_default-failure.is);
      host = c.in-Some.ensures.same ∙ ap (λ (h : Host). record h { waiting = c.take_done.new.self.waiting }) i.host;
      same = ap (λ (z : Putting). record z { host = c.take_done.new.self; flying = c.remove.new.self }) i.same;
      matches = λ log m. c.take_done.ensures.matches log (i.matches log m);
    }

pub returns-clause-takes : goal.returns-clause-takes
returns-clause-takes c = λ outs order.
    (sym c.in_default.ensures.first ∙ c.in_default.ensures.none, order-over (c.outcomes.invariant.order outs order) c.in_default.ensures.none)
