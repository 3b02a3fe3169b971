use Rattle.std.proofs.Common.{ap, ◌∙◌, sym, arith, inl, inr, refl}
use Rattle.aoe_block.specs.Steps.{log_of}
use Rattle.aoe_initiator.specs.Host.{Host}
use Rattle.aoe_copy.proofs.AgainLemmas.{few-more, part-ended, starts-again, writes-tickets}
use Rattle.aoe_copy.proofs.again.check_part.Goals as goal

pub run-requires-clause-begins : goal.run-requires-clause-begins
run-requires-clause-begins g c = (_, c.new-putting.ensures.begins c.requires.begins.0 c.args.course.now.turns c.requires.begins.1, refl)

pub returns-in-Err-clause-part : goal.returns-in-Err-clause-part
returns-in-Err-clause-part g c = λ log start.
    inr (inl (c.in-Err.ensures.run _ (c.new-putting.ensures.begins log c.args.course.now.turns start) refl))

pub read_back-requires-clause-free : goal.read_back-requires-clause-free
read_back-requires-clause-free g c =
    let ran = c.in-Ok-run.ensures.ran _ (c.new-putting.ensures.begins c.requires.begins.0 c.args.course.now.turns c.requires.begins.1) refl in
    record {
      attached = rw c.into_host-host.ensures.host c.into_host-host.ensures.attached;
      waiting = ap (λ (h : Host). h.waiting) c.into_host-host.ensures.host ∙ ran.2;
      asked_is = c.into_host-host.ensures.asked ∙ sym (ap (λ (h : Host). h.last_ticket) c.into_host-host.ensures.host);
    }

pub read_back-requires-clause-few : goal.read_back-requires-clause-few
read_back-requires-clause-few g c =
    let ran = c.in-Ok-run.ensures.ran _ (c.new-putting.ensures.begins c.requires.begins.0 c.args.course.now.turns c.requires.begins.1) refl in
    omega (
      arith,
      c.into_host-host.ensures.asked,
      writes-tickets ran.0 ran.1,
      c.requires.free.asked_is,
      c.requires.few,
      c.requires.within,
      c.requires.course.range,
    )

pub read_back-requires-clause-begins : goal.read_back-requires-clause-begins
read_back-requires-clause-begins g c =
    let ran = c.in-Ok-run.ensures.ran _ (c.new-putting.ensures.begins c.requires.begins.0 c.args.course.now.turns c.requires.begins.1) refl in
    (log_of (record { host = c.args.host; log = c.requires.begins.0 }) ran.0.steps, rw c.into_host-host.ensures.host (starts-again ran.1))

pub returns-clause-few : goal.returns-clause-few
returns-clause-few g c =
    let ran = c.in-Ok-run.ensures.ran _ (c.new-putting.ensures.begins c.requires.begins.0 c.args.course.now.turns c.requires.begins.1) refl in
    few-more c.read_back.result _ _ (omega (arith, c.into_host-host.ensures.asked, writes-tickets ran.0 ran.1, c.requires.free.asked_is))
    c.read_back.ensures.few

pub returns-clause-part : goal.returns-clause-part
returns-clause-part g c = λ log start.
    let ran = c.in-Ok-run.ensures.ran _ (c.new-putting.ensures.begins log c.args.course.now.turns start) refl in
    let reads = c.read_back.ensures.reads (log_of (record { host = c.args.host; log = log }) ran.0.steps)
    (rw c.into_host-host.ensures.host (starts-again ran.1)) in
    part-ended _ _ _ _ _ _ _ c.read_back.result ran.0 _ ran.1 (rw c.into_host-host.ensures.host at reads)
