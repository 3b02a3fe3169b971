-- A run of `audit`, by its status. Its one disk is the keep whose lists the target had when the capture began.
use Rattle.std.specs.Prelude.{ℕ, ◌≡◌, ◌≢◌, ◌≤◌, ◌↔◌, ◌⊎◌, List, [], ◌∷◌, Option, Some, IfSome, Result, Ok, Err}
use Rattle.aoe_base.specs.Faults.{Rose}
use Rattle.aoe_disk.specs.State.{DiskState}
use Rattle.aoe_keep.specs.Found.{found}
use Rattle.aoe_keep.specs.Keep.{HasMounted, IsRefused}
use Rattle.aoe_keep.specs.declared.refusal.MountRefusal.{MountRefusal}
use Rattle.aoe_lists.specs.Settings.{Settings}
use Rattle.aoe_pcap_audit.specs.Ends.{Audits}
use Rattle.aoe_pcap_audit.specs.declared.stop.AuditStop.{AuditStop}
use Rattle.aoe_pcap_audit.specs.declared.stop.AuditStop.TheVariants as stop
use Rattle.aoe_target.specs.Mounted.{station_of}
use Rattle.aoe_args.specs.declared.command.Audit.{Audit}
use Rattle.aoe.specs.Keeping.{IsTooSmall, refused_alone}
use Rattle.aoe.specs.declared.status.Status.{Status}
use Rattle.aoe.specs.declared.status.Status.TheVariants as status
use Rattle.aoe.specs.declared.status.What.TheVariants as what

-- the status of an audit that ended so
abbrev pub audited_as : Result Unit AuditStop → Status
audited_as (Ok done) = status.Ok
audited_as (Err stop.SourceFault) = status.SourceFault
audited_as (Err stop.SinkFault) = status.SinkFault
audited_as (Err stop.NoMemory) = status.NoMemory
audited_as (Err stop.BadHeader) = status.CaptureHead
audited_as (Err (stop.BadRecord number)) = status.Capture number
audited_as (Err stop.Records) = status.Limit what.Records
audited_as (Err stop.CaptureBytes) = status.Limit what.CaptureBytes
audited_as (Err (stop.Finding number kind)) = status.Audit number kind

-- the keep was mounted, and the capture judged as one of a target that had its lists
pub record HasJudged (asked : Audit) (s : Status) (left left' held held' : Option (List ℕ)) (before after : DiskState) : Type 0 where
  pub lists : Settings
  pub mounted : HasMounted before after lists
  pub ended : Result Unit AuditStop
  pub audits : Audits ended (station_of asked.id asked.ports.items asked.mtu asked.sectors) lists left left' held held'
  pub ends : s ≡ audited_as ended

-- the keep was refused, and nothing was read or written
pub record WasKeptOut {D : Type 0} (state : D → DiskState) (s : Status) (left left' held held' : Option (List ℕ)) (given back : D) : Type 0 where
  pub refusal : MountRefusal
  pub refused : IsRefused state given refusal back
  pub unread : left' ≡ left
  pub unwritten : held' ≡ held
  pub ends : s ≡ refused_alone refusal

-- A capture was judged, or its keep was refused. That is so exactly for its causes, and a disk that is said to have failed did.
pub record JudgesCapture {D : Type 0} (state : D → DiskState) (asked : Audit) (s : Status) (left left' held held' : Option (List ℕ)) (given back : D)
    : Type 0 where
  pub judges : HasJudged asked s left left' held held' (state given) (state back) ⊎ WasKeptOut state s left left' held held' given back
  pub small : (sectors : ℕ) → (s ≡ status.KeepSmall 0 sectors) ↔ IsTooSmall (state given) sectors
  pub bad : (slot : ℕ) → IfSome (state given).contents (λ c. (s ≡ status.KeepBad 0 slot)
      ↔ ((16 ≤ (state given).sectors) × (found c.bytes ≡ Err slot) × (s ≢ status.DiskFault 0)))
  pub blames : (disk : ℕ) → s ≡ status.DiskFault disk → (disk ≡ 0) × Rose (state given).faults (state back).faults

-- what a run reads, writes and leaves
pub record RunsAudit {D : Type 0} (state : D → DiskState) (asked : Audit) (s : Status) (left left' held held' : Option (List ℕ)) (disks disks' : List (Option D))
    : Type 0 where
  pub given : D
  pub back : D
  pub were : disks ≡ Some given ∷ []
  pub are : disks' ≡ Some back ∷ []
  pub judges : JudgesCapture state asked s left left' held held' given back
