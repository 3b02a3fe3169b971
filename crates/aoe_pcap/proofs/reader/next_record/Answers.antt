use Rattle.std.proofs.Common.{arith, ◌∙◌, ap, Ok}
use Rattle.aoe_io.proofs.BytesLemmas.{GaveSome-then}
use Rattle.aoe_pcap.specs.Capture.{record_head}
use Rattle.aoe_pcap.proofs.CutLemmas.{cut-bytes, gave-record}
use Rattle.aoe_pcap.proofs.reader.next_record.Goals as goal

pub returns-in-Ok-true-clause-gave : goal.returns-in-Ok-true-clause-gave
returns-in-Ok-true-clause-gave g c = λ _.
    let gave = rw c.in-Ok-Some.field-0-is at c.in-Ok-Some.ensures.gave in
    let few = rw c.in-Ok-Some.field-0-is at c.in-Ok-Some.ensures.few in
    let fits = rw c.in-Ok-Some.field-0-is at c.in-Ok-Some.ensures.fits in
    let captured = c.read_captured.ensures.captured (c.in-Ok-true.is ∙ ap Ok c.in-Ok-true.field-0-test) in
    gave-record c.args.head.now.big _ _ _ gave.0 gave.1 c.in-Ok-Some.lengths.captured c.in-Ok-Some.lengths.original captured.0 _ _
    gave.2 gave.3 fits few captured.1 gave.4 captured.2 c.kind.ensures captured.3

pub returns-in-Ok-false-clause-bad_record : goal.returns-in-Ok-false-clause-bad_record
returns-in-Ok-false-clause-bad_record g c = λ n e.
    let gave = rw c.in-Ok-Some.field-0-is at c.in-Ok-Some.ensures.gave in
    let few = rw c.in-Ok-Some.field-0-is at c.in-Ok-Some.ensures.few in
    let short = c.read_captured.ensures.short (c.in-Ok-false.is ∙ ap Ok c.in-Ok-false.field-0-test) in
    (cc, cut-bytes c.args.head.now.big _ _ gave.0 gave.1 c.in-Ok-Some.lengths.captured c.in-Ok-Some.lengths.original (omega (arith, few)) gave.4 short)

pub returns-in-Ok-false-clause-taken : goal.returns-in-Ok-false-clause-taken
returns-in-Ok-false-clause-taken g c =
    let gave = rw c.in-Ok-Some.field-0-is at c.in-Ok-Some.ensures.gave in
    GaveSome-then _ _ _ (record_head c.args.head.now.big gave.0 gave.1 c.in-Ok-Some.lengths.captured c.in-Ok-Some.lengths.original)
    gave.4 c.read_captured.ensures.taken

pub returns-in-Err-read_captured-clause-taken : goal.returns-in-Err-read_captured-clause-taken
returns-in-Err-read_captured-clause-taken g c =
    let gave = rw c.in-Ok-Some.field-0-is at c.in-Ok-Some.ensures.gave in
    GaveSome-then _ _ _ (record_head c.args.head.now.big gave.0 gave.1 c.in-Ok-Some.lengths.captured c.in-Ok-Some.lengths.original)
    gave.4 c.read_captured.ensures.taken
