use Rattle.std.proofs.Common.{◌∙◌, sym}
use Rattle.aoe_pcap_audit.proofs.EndLemmas.{no-end}
use Rattle.aoe_pcap_audit.proofs.judging.turn.Goals as goal

pub returns-in-Ok-judge_record-clause-came : goal.returns-in-Ok-judge_record-clause-came
returns-in-Ok-judge_record-clause-came g c = λ lists ps behind.
    let came = c.in-Ok.ensures.gave (no-end c.in-Ok.came (sym c.is_end.ensures ∙ c.if-is_end.false)) in
    let judged = c.in-Ok-judge_record.ensures.judged lists ps came.packet behind came.kind_is came.frame_is in
    record { packet = came.packet; fits = came.fits; gave = came.gave; within = judged.0; fed_with = judged.1; total_is = judged.2 }
