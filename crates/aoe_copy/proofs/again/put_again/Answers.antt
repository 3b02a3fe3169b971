use Rattle.std.proofs.Common.{arith, inl, inr, refl}
use Rattle.aoe_copy.proofs.again.put_again.Goals as goal

pub returns-in-Err-clause-run : goal.returns-in-Err-clause-run
returns-in-Err-clause-run g c = record {
  first = c.now-first.result;
  later = g.C.Clock.answers c.now-first.new.self;
  answered = record { least_is = c.now-first.ensures.least; told = c.now-first.ensures.told };
  found = _;
  mid = _;
  finds = c.in-Err.ensures.finds;
  copies = (refl, refl);
}

pub returns-in-None-clause-run : goal.returns-in-None-clause-run
returns-in-None-clause-run g c = record {
  first = c.now-first.result;
  later = g.C.Clock.answers c.now-first.new.self;
  answered = record { least_is = c.now-first.ensures.least; told = c.now-first.ensures.told };
  found = _;
  mid = _;
  finds = c.in-Ok.ensures.finds;
  copies = inl (omega (arith, c.in-None.ensures.none), refl, refl);
}

pub returns-in-Some-clause-run : goal.returns-in-Some-clause-run
returns-in-Some-clause-run g c = record {
  first = c.now-first.result;
  later = g.C.Clock.answers c.now-first.new.self;
  answered = record { least_is = c.now-first.ensures.least; told = c.now-first.ensures.told };
  found = _;
  mid = _;
  finds = c.in-Ok.ensures.finds;
  copies = let plan = c.in-Some.ensures.some in inr (omega (arith, plan.1), rw plan.0 at c.check_in.ensures.checks);
}
