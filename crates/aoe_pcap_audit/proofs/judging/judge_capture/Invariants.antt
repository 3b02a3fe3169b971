use Rattle.std.proofs.Common.{◌≡◌, ◌≤◌, []}
use Rattle.aoe_audit.specs.Auditing.{HasHeard}
use Rattle.aoe_lists.specs.Settings.{Settings}
use Rattle.aoe_pcap_audit.specs.Records.{most_captured}
use Rattle.aoe_pcap_audit.proofs.EndLemmas.{SoFar}
use Rattle.aoe_pcap_audit.proofs.judging.judge_capture.Given as goal

abbrev pub invariant-records : goal.invariant-records
invariant-records g l = record {
  so_far : (lists : Settings) → HasHeard lists l.fn.audit []
      → SoFar lists l.audit (g.S.Source.left l.fn.source) (g.S.Source.left l.source) l.head.big l.count l.captured;
  station : l.audit.station ≡ l.fn.audit.station;
  few : l.captured ≤ most_captured;
  faults : g.S.Source.faults l.source ≡ g.S.Source.faults l.fn.source;
}
