use Rattle.std.proofs.Common.{◌≡◌, List, length}
use Rattle.aoe_lists.specs.Settings.{Settings}
use Rattle.aoe_audit.specs.Auditing.{HasHeard}
use Rattle.aoe_audit.specs.Captured.{Packet}
use Rattle.aoe_audit.proofs.audit.Audit.finish.Given as goal

abbrev pub invariant-requests : goal.invariant-requests
invariant-requests l = record {
  heard : (lists : Settings) (c : List Packet) → HasHeard lists l.fn.self c → HasHeard lists l.self c;
  station : l.self.station ≡ l.fn.self.station;
}

abbrev pub decreases-requests : goal.decreases-requests
decreases-requests l = length l.self.waiting
