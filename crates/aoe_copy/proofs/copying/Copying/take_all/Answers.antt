use Rattle.std.proofs.Common.{refl, sym, ap, ◌∙◌, arith}
use Rattle.aoe_initiator.specs.Host.{Host}
use Rattle.aoe_copy.proofs.OutcomeLemmas.{fails-next, most-of, next-there, order-next, order-over}
use Rattle.aoe_copy.proofs.copying.Copying.take_all.Goals as goal

pub outcomes-init : goal.outcomes-init
outcomes-init c = record {
  there = λ outs there order. there;
  all = λ outs all most order. all;
  order = λ outs order. order;
  host = refl;
  plan = refl;
  reached = refl;
  before = refl;
  window = record { given_is = refl; length_is = refl };
  matches = λ log m. m;
}

pub returns-in-Err-clause-takes : goal.returns-in-Err-clause-takes
returns-in-Err-clause-takes c = λ outs there all most order.
    let i = c.outcomes.invariant in
    let next = c.in-Some.ensures.first in (
      rw c.settle.ensures.same.given_is (c.settle.ensures.there outs (next-there (i.order outs order) next) (i.there outs there order)),
      rw c.settle.ensures.same.given_is
          (c.settle.ensures.all outs c.take_done.new.self.waiting
          (λ bytes is. omega (arith, most-of (i.order outs order) next _ most bytes is, i.window.given_is, i.window.length_is, c.requires.tickets))
          (rw next at (i.all outs all most order))),
      fails-next (i.order outs order) next c.args.turns c.in-Err.refusal c.in-Err.ensures.err,
    )

pub outcomes-preserved : goal.outcomes-preserved
outcomes-preserved c =
    let i = c.outcomes.invariant in
    let next = c.in-Some.ensures.first in
    record {
      there = λ outs there order.
          rw c.settle.ensures.same.given_is (c.settle.ensures.there outs (next-there (i.order outs order) next) (i.there outs there order));
      all = λ outs all most order.
          rw c.settle.ensures.same.given_is
          (c.settle.ensures.all outs c.take_done.new.self.waiting
          (λ bytes is. omega (arith, most-of (i.order outs order) next _ most bytes is, i.window.given_is, i.window.length_is, c.requires.tickets))
          (rw next at (i.all outs all most order)));
      order = λ outs order. order-next (i.order outs order) next c.args.turns c.in-Ok.ensures.ok;
      host = c.in-Some.ensures.same ∙ ap (λ (h : Host). record h { waiting = c.take_done.new.self.waiting }) i.host;
      plan = i.plan;
      reached = i.reached;
      before = i.before;
      window = record { given_is = c.settle.ensures.same.given_is ∙ i.window.given_is; length_is = c.settle.ensures.same.length_is ∙ i.window.length_is };
      matches = λ log m. c.take_done.ensures.matches log (i.matches log m);
    }

pub returns-clause-takes : goal.returns-clause-takes
returns-clause-takes c = λ outs there all most order.
    let i = c.outcomes.invariant in (
      i.there outs there order,
      rw c.in_default.ensures.first at (i.all outs all most order),
      (sym c.in_default.ensures.first ∙ c.in_default.ensures.none, order-over (i.order outs order) c.in_default.ensures.none),
    )
