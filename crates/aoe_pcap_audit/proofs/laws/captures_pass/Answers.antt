use Rattle.aoe_pcap_audit.proofs.Passing.{run-passes}
use Rattle.aoe_pcap_audit.proofs.laws.captures_pass.Goals as goal

pub returns : goal.returns
returns c slot after left left' bytes run on told others few result rest held held' audits no-source no-sink =
    run-passes slot after left left' bytes run on told others few
    (λ station lists more d judged. c.a_judged_capture_is_judged_at_each_record.ensures station lists more d judged)
    result rest held held' audits no-source no-sink
