use Rattle.std.proofs.Common.{◌∙◌}
use Rattle.aoe_pcap_audit.proofs.EndLemmas.{audits-ok, audits-sink}
use Rattle.aoe_pcap_audit.proofs.line.audit_capture.Goals as goal

pub returns-in-Ok-give_all-clause-run : goal.returns-in-Ok-give_all-clause-run
returns-in-Ok-give_all-clause-run g c = λ lists fed.
    audits-ok c.in-Ok.summary _ lists _ _ _ _ c.as_slice.result.now (c.in-Ok.ensures.run lists fed) (c.as_slice.ensures.value ∙ c.line_of.ensures)
    c.in-Ok-give_all.ensures.all

pub returns-in-Err-give_all-clause-run : goal.returns-in-Err-give_all-clause-run
returns-in-Err-give_all-clause-run g c = λ lists fed.
    audits-sink c.in-Ok.summary _ lists _ _ _ _ c.as_slice.result.now (c.in-Ok.ensures.run lists fed) (c.as_slice.ensures.value ∙ c.line_of.ensures)
    c.in-Err-give_all.ensures.some
