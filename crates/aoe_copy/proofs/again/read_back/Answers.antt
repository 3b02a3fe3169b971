use Rattle.std.proofs.Common.{ap, ◌∙◌, sym, arith}
use Rattle.aoe_initiator.specs.Host.{Host}
use Rattle.aoe_copy.proofs.AgainLemmas.{long-ok, read-both, read-ok, reads-tickets}
use Rattle.aoe_copy.proofs.again.read_back.Goals as goal

pub run-read-requires-clause-begins : goal.run-read-requires-clause-begins
run-read-requires-clause-begins g c = (_, _, c.new-copying.ensures.begins c.requires.begins.0 c.requires.begins.1)

pub run-read-requires-clause-waiting : goal.run-read-requires-clause-waiting
run-read-requires-clause-waiting g c = c.new-copying.ensures.waiting ∙ c.requires.free.waiting

pub end_back-requires-clause-long : goal.end_back-requires-clause-long
end_back-requires-clause-long g c =
    let start = c.requires.begins.1 in
    let runs = c.run-read.ensures.run _ _ (c.new-copying.ensures.begins c.requires.begins.0 start) in
    rw c.bytes.ensures (long-ok c.run-read.result c.args.sent.now start (rw c.requires.empty at runs) c.requires.count c.requires.whole)

pub returns-in-Ok-clause-free : goal.returns-in-Ok-clause-free
returns-in-Ok-clause-free g c =
    let ok = read-ok c.run-read.result _ _ _ c.in-Ok.ensures.back in
    let ran = (rw ok at c.run-read.ensures.ran) _ _ (c.new-copying.ensures.begins c.requires.begins.0 c.requires.begins.1) in
    record {
      attached = rw c.into_host.ensures.host c.into_host.ensures.attached;
      waiting = ap (λ (h : Host). h.waiting) c.into_host.ensures.host ∙ ran.2;
      asked_is = c.into_host.ensures.asked ∙ sym (ap (λ (h : Host). h.last_ticket) c.into_host.ensures.host);
    }

pub returns-in-Ok-clause-few : goal.returns-in-Ok-clause-few
returns-in-Ok-clause-few g c =
    let ok = read-ok c.run-read.result _ _ _ c.in-Ok.ensures.back in
    let ran = (rw ok at c.run-read.ensures.ran) _ _ (c.new-copying.ensures.begins c.requires.begins.0 c.requires.begins.1) in
    omega (arith, c.into_host.ensures.asked, reads-tickets c.requires.some ran.0 ran.1, c.requires.free.asked_is)

pub returns-in-Ok-clause-reads : goal.returns-in-Ok-clause-reads
returns-in-Ok-clause-reads g c = λ log start.
    let ok = read-ok c.run-read.result _ _ _ c.in-Ok.ensures.back in
    let ran = (rw ok at c.run-read.ensures.ran) _ _ (c.new-copying.ensures.begins log start) in
    let same = rw (ok, c.bytes.ensures) at c.in-Ok.ensures.back in
    rw c.into_host.ensures.host (read-both _ _ _ _ _ _ _ _ _ c.requires.empty same ran.0 ran.1)

pub returns-in-Err-clause-reads : goal.returns-in-Err-clause-reads
returns-in-Err-clause-reads g c = λ log start.
    let runs = c.run-read.ensures.run _ _ (c.new-copying.ensures.begins log start) in
    (c.run-read.result, c.run-read.new.sink.held, rw c.requires.empty at runs, rw c.bytes.ensures at c.in-Err.ensures.back)
