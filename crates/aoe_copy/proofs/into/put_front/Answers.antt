use Rattle.std.proofs.Common.{ap, inl, inr, refl, arith}
use Rattle.aoe_copy.specs.declared.plan.Plan.{Plan}
use Rattle.aoe_copy.proofs.into.put_front.Goals as goal

pub returns-in-Err-clause-run : goal.returns-in-Err-clause-run
returns-in-Err-clause-run g c = record {
  first = c.now-first.result;
  later = g.C.Clock.answers c.now-first.new.self;
  answered = record { least_is = c.now-first.ensures.least; told = c.now-first.ensures.told };
  found = _;
  mid = _;
  finds = c.in-Err.ensures.finds;
  copies = (refl, refl);
}

pub returns-in-None-clause-run : goal.returns-in-None-clause-run
returns-in-None-clause-run g c = record {
  first = c.now-first.result;
  later = g.C.Clock.answers c.now-first.new.self;
  answered = record { least_is = c.now-first.ensures.least; told = c.now-first.ensures.told };
  found = _;
  mid = _;
  finds = c.in-Ok.ensures.finds;
  copies = inl (omega (arith, c.in-None.ensures.none), refl, refl);
}

pub returns-then-front_count-plan-clause-run : goal.returns-then-front_count-plan-clause-run
returns-then-front_count-plan-clause-run g c = record {
  first = c.now-first.result;
  later = g.C.Clock.answers c.now-first.new.self;
  answered = record { least_is = c.now-first.ensures.least; told = c.now-first.ensures.told };
  found = _;
  mid = _;
  finds = c.in-Ok.ensures.finds;
  copies = let plan = c.in-Some.ensures.some in
      inl (omega (arith, plan.1, ap (λ (p : Plan). p.count) plan.0, c.if-front_count-plan.true), refl, refl);
}

pub returns-clause-run : goal.returns-clause-run
returns-clause-run g c = record {
  first = c.now-first.result;
  later = g.C.Clock.answers c.now-first.new.self;
  answered = record { least_is = c.now-first.ensures.least; told = c.now-first.ensures.told };
  found = _;
  mid = _;
  finds = c.in-Ok.ensures.finds;
  copies = let plan = c.in-Some.ensures.some in
      inr (omega (arith, plan.1, ap (λ (p : Plan). p.count) plan.0, c.if-front_count-plan.false), rw plan.0 at c.copy_in.ensures.runs);
}
