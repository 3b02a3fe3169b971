use Rattle.std.proofs.Common.{refl, subst, sym}
use Rattle.aoe_pcap_audit.specs.Ends.{IsLeftBy}
use Rattle.aoe_pcap_audit.specs.Records.{heard}
use Rattle.aoe_pcap_audit.specs.declared.stop.AuditStop.{AuditStop}
use Rattle.aoe_pcap_audit.proofs.EndLemmas.{left-refused, passes-of}
use Rattle.aoe_pcap_audit.proofs.judging.conclude.Goals as goal

pub returns-in-Ok-clause-passes : goal.returns-in-Ok-clause-passes
returns-in-Ok-clause-passes c = λ lists ps fed within count.
    passes-of c.args.audit.station lists ps c.in-Ok.verdict _ (c.in-Ok.ensures.yes lists (heard ps) fed) within count refl refl refl

pub returns-in-Err-clause-left : goal.returns-in-Err-clause-left
returns-in-Err-clause-left c = λ lists ps fed.
    subst (λ (s : AuditStop). IsLeftBy s c.args.audit.station lists (heard ps)) (sym c.refused.ensures)
    (left-refused c.in-Err.refusal c.args.audit.station lists (heard ps) (c.in-Err.ensures.cause lists (heard ps) fed))
