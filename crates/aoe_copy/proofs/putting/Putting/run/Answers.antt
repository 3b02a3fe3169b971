use Rattle.std.proofs.Common.{refl, ◌∙◌, arith}
use Rattle.std.specs.Prelude.{Err}
use Rattle.aoe_copy.proofs.PutTurnLemmas.{begun, goes-on-answered, goes-on-quiet, may-begin, no-sink, unanswered}
use Rattle.aoe_copy.proofs.putting.Putting.run.Goals as goal

pub turns-init : goal.turns-init
turns-init g c = record {
  fit = c.requires.fit;
  so = λ p begins is. begun begins c.requires.waiting;
  within = omega arith;
  faults = refl;
  source_faults = refl;
}

pub returns-in-Ok-Over-clause-run : goal.returns-in-Ok-Over-clause-run
returns-in-Ok-Over-clause-run g c = λ p begins is.
    let s = c.turns.invariant.so p begins is in
    let t = rw c.in-Ok-Over.field-0-is at
    (c.in-Ok-Over.ensures.turn _ _ _ s.steps c.now.ensures.told s.stands s.keeps s.order (may-begin s c.args.turns is c.turns-test.true)) in
    t.0

pub returns-in-Ok-Over-clause-ran : goal.returns-in-Ok-Over-clause-ran
returns-in-Ok-Over-clause-ran g c = λ p begins is.
    let s = c.turns.invariant.so p begins is in
    rw c.in-Ok-Over.field-0-is at
    (c.in-Ok-Over.ensures.turn _ _ _ s.steps c.now.ensures.told s.stands s.keeps s.order (may-begin s c.args.turns is c.turns-test.true))

pub turns-smaller-in-Ok-Answered : goal.turns-smaller-in-Ok-Answered
turns-smaller-in-Ok-Answered g c =
    let is = c.requires.begins.2 in
    let s = c.turns.invariant.so c.requires.begins.0 c.requires.begins.1 is in
    let t = rw c.in-Ok-Answered.field-0-is at
    (c.in-Ok-Answered.ensures.turn _ _ _ s.steps c.now.ensures.told s.stands s.keeps s.order (may-begin s c.args.turns is c.turns-test.true)) in
    (goes-on-answered s c.args.turns c.turns-test.true t).1

pub turns-preserved-in-Ok-Answered : goal.turns-preserved-in-Ok-Answered
turns-preserved-in-Ok-Answered g c = record {
  fit = c.in-Ok-Answered.ensures.fit;
  so = λ p begins is.
      let s = c.turns.invariant.so p begins is in
      let t = rw c.in-Ok-Answered.field-0-is at
      (c.in-Ok-Answered.ensures.turn _ _ _ s.steps c.now.ensures.told s.stands s.keeps s.order (may-begin s c.args.turns is c.turns-test.true)) in
      (goes-on-answered s c.args.turns c.turns-test.true t).0;
  within = omega arith;
  faults = c.in-Ok-Answered.ensures.link.no_fault (λ e. absurd cc) ∙ c.turns.invariant.faults;
  source_faults = c.in-Ok-Answered.ensures.source.no_fault (λ e. absurd cc) ∙ c.turns.invariant.source_faults;
}

pub turns-smaller : goal.turns-smaller
turns-smaller g c =
    let is = c.requires.begins.2 in
    let s = c.turns.invariant.so c.requires.begins.0 c.requires.begins.1 is in
    let t = rw c.in-Ok-Quiet.field-0-is at
    (c.in-Ok-Quiet.ensures.turn _ _ _ s.steps c.now.ensures.told s.stands s.keeps s.order (may-begin s c.args.turns is c.turns-test.true)) in
    (goes-on-quiet s c.args.turns c.turns-test.true t).1

pub turns-preserved : goal.turns-preserved
turns-preserved g c = record {
  fit = c.in-Ok-Quiet.ensures.fit;
  so = λ p begins is.
      let s = c.turns.invariant.so p begins is in
      let t = rw c.in-Ok-Quiet.field-0-is at
      (c.in-Ok-Quiet.ensures.turn _ _ _ s.steps c.now.ensures.told s.stands s.keeps s.order (may-begin s c.args.turns is c.turns-test.true)) in
      (goes-on-quiet s c.args.turns c.turns-test.true t).0;
  within = omega (arith, c.turns-test.true);
  faults = c.in-Ok-Quiet.ensures.link.no_fault (λ e. absurd cc) ∙ c.turns.invariant.faults;
  source_faults = c.in-Ok-Quiet.ensures.source.no_fault (λ e. absurd cc) ∙ c.turns.invariant.source_faults;
}

pub returns-in-Err-clause-run : goal.returns-in-Err-clause-run
returns-in-Err-clause-run g c = λ p begins is.
    let s = c.turns.invariant.so p begins is in
    c.in-Err.ensures.turn _ _ _ s.steps c.now.ensures.told s.stands s.keeps s.order (may-begin s c.args.turns is c.turns-test.true)

pub returns-clause-run : goal.returns-clause-run
returns-clause-run g c = λ p begins is.
    rw (← is) (unanswered (c.turns.invariant.so p begins is) (omega (arith, c.turns-test.false, c.turns.invariant.within, is)))

pub returns-in-Err-clause-sink : goal.returns-in-Err-clause-sink
returns-in-Err-clause-sink g c = λ e.
    let is = c.requires.begins.2 in
    let s = c.turns.invariant.so c.requires.begins.0 c.requires.begins.1 is in
    no-sink (Err c.in-Err.refusal)
    (c.in-Err.ensures.turn _ _ _ s.steps c.now.ensures.told s.stands s.keeps s.order (may-begin s c.args.turns is c.turns-test.true)) e
