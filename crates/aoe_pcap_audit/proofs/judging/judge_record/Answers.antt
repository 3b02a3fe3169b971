use Rattle.std.proofs.Common.{◌≡◌, ◌∷◌, ◌∙◌, ap, arith, length, subst, sym}
use Rattle.aoe_pcap_audit.specs.Ends.{StopsOn}
use Rattle.aoe_pcap_audit.specs.Records.{IsWithin, captured_of, heard, is_whole}
use Rattle.aoe_pcap_audit.specs.declared.stop.AuditStop.{AuditStop}
use Rattle.aoe_pcap_audit.proofs.EndLemmas.{captured-is, fed-is, stops-refused}
use Rattle.aoe_pcap_audit.proofs.judging.judge_record.Goals as goal

pub returns-in-Err-clause-stops : goal.returns-in-Err-clause-stops
returns-in-Err-clause-stops c = λ lists ps p behind is frame.
    let count : c.captured_of.result ≡ length p.captured = c.captured_of.ensures ∙ (λ i. captured_of (is i) (frame i)) ∙ captured-is p in
    let same = fed-is ps p c.args.number _ _ behind.number_is (c.as_slice.ensures.value ∙ frame) (c.is_whole.ensures ∙ ap is_whole is) in
    let within : IsWithin (p ∷ ps) = record {
      records = omega (arith, c.if-number-gt-MAX_RECORDS.false, behind.number_is);
      bytes = omega (arith, c.if-captured-gt-MAX_CAPTURED.false, behind.captured_is, count);
    } in
    subst (λ (s : AuditStop). StopsOn s c.args.audit.now.station lists ps p) (sym c.refused.ensures)
    (stops-refused c.in-Err.refusal c.args.audit.now.station lists ps p _ same within (c.in-Err.ensures.cause lists (heard ps) behind.fed_with))
