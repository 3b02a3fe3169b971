use Rattle.std.proofs.Common.{◌∙◌, ◌+◌, ap, arith, inr, refl, Ok}
use Rattle.aoe_pcap_audit.proofs.EndLemmas.{behind-of, concluded, so-far-none, so-far-then, stopped}
use Rattle.aoe_pcap_audit.proofs.judging.judge_capture.Goals as goal

pub records-init : goal.records-init
records-init g c =
    let h = c.in-Ok.ensures.head in
    record {
      so_far = λ lists fed. so-far-none lists _ _ _ c.in-Ok.head.big h.0 h.1 h.2 h.3 fed;
      station = refl;
      few = omega arith;
      faults = c.in-Ok.ensures.no_fault (λ e. cc);
    }

pub returns-in-Ok-None-clause-run : goal.returns-in-Ok-None-clause-run
returns-in-Ok-None-clause-run g c = λ lists fed.
    let s = c.records.invariant.so_far lists fed in
    let e = c.turn.ensures.end (c.in-Ok-None.is ∙ ap Ok c.in-Ok-None.field-0-is) in
    concluded lists c.records.audit _ _ _ _ _ s _ c.records.invariant.station c.conclude.result _ _ e.0 e.1 e.2 c.conclude.ensures.passes
    c.conclude.ensures.left

pub returns-in-Err-turn-clause-run : goal.returns-in-Err-turn-clause-run
returns-in-Err-turn-clause-run g c = λ lists fed.
    let s = c.records.invariant.so_far lists fed in
    let behind = behind-of lists c.records.audit _ _ _ _ _ s (c.records.count + 1) refl in
    inr (stopped lists c.records.audit _ _ _ _ _ s _ c.records.invariant.station c.in-Err-turn.stop _ (c.in-Err-turn.ensures.stops lists s.packets behind))

pub records-preserved : goal.records-preserved
records-preserved g c = record {
  so_far = λ lists fed.
      let s = c.records.invariant.so_far lists fed in
      let behind = behind-of lists c.records.audit _ _ _ _ _ s (c.records.count + 1) refl in
      so-far-then lists c.records.audit _ _ _ _ _ s c.turn.new.audit _ c.in-Ok-Some.total
      (rw c.in-Ok-Some.field-0-is at (c.in-Ok-Some.ensures.came lists s.packets behind));
  station = c.turn.ensures.station ∙ c.records.invariant.station;
  few = rw c.in-Ok-Some.field-0-is at c.in-Ok-Some.ensures.few;
  faults = c.in-Ok-Some.ensures.source_blame.no_fault (λ e. cc) ∙ c.records.invariant.faults;
}

pub returns-clause-run : goal.returns-clause-run
returns-clause-run g c = λ lists fed.
    let s = c.records.invariant.so_far lists fed in
    absurd (omega (arith, c.records-test.false, s.count_is, s.within.records))
