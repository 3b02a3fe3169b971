-- What a run takes, gives and leaves, by its status.
use Rattle.std.specs.Prelude.{ℕ, ◌<◌, ◌≤◌, ◌≡◌, ◌≢◌, Bool, true, false, List, Option, Some, Ok, Err, nat_lt, slice_get}
use Rattle.std.specs.Option.{option_map_or}
use Rattle.aoe_disk.specs.State.{Contents, DiskState, is_loose}
use Rattle.aoe_keep.specs.Found.{found}
use Rattle.aoe_keep.specs.declared.refusal.MountRefusal.{MountRefusal}
use Rattle.aoe_lists.specs.Settings.{Settings}
use Rattle.aoe_serve.specs.Backing.{held_back}
use Rattle.aoe_serve.specs.Exporting.{AtFirst, IsExported, Outside, Tells}
use Rattle.aoe_serve.specs.Files.{GivesBack}
use Rattle.aoe_serve.specs.declared.plan.Exported.{Exported}
use Rattle.aoe_serve.specs.declared.over_files.ExportOptions.{ExportOptions}
use Rattle.aoe_serve.specs.declared.plan.Plan.{Plan}
use Rattle.aoe_world.specs.Replay.{HasRun, LeavesSink, Replayed, Sums}
use Rattle.aoe_script.specs.Lines.{ScriptLines}
use Rattle.aoe_soak.specs.Soak.{soaked}
use Rattle.aoe_world.specs.declared.end.ReplayEnd.{ReplayEnd}
use Rattle.aoe_args.specs.declared.command.Command.{Command}
use Rattle.aoe_args.specs.declared.command.Command.TheVariants as command
use Rattle.aoe_args.specs.declared.command.Get.{Get}
use Rattle.aoe_args.specs.declared.command.Nbd.{Nbd}
use Rattle.aoe_args.specs.declared.command.Put.{Put}
use Rattle.aoe_args.specs.declared.command.Soak.{Soak}
use Rattle.aoe_args.specs.declared.command.Tool.{Tool}
use Rattle.aoe_tools.specs.Runs.{Told}
use Rattle.aoe.specs.Auditing.{RunsAudit}
use Rattle.aoe.specs.Commands.{answer_plan, mirror_plan, serve_plan, target_of}
use Rattle.aoe.specs.Comparing.{is_compare_status}
use Rattle.aoe.specs.Ending.{file_at, keep_at, refused_as, refused_slot, replayed_as, status_of}
use Rattle.aoe.specs.Keeping.{RunsKeep}
use Rattle.aoe.specs.Live.{is_live_status}
use Rattle.aoe.specs.Mirror.{LeavesOthers, is_mirror_status}
use Rattle.aoe.specs.Serving.{is_served_status, DoorSeen, IsServedTo}
use Rattle.aoe.specs.Switching.{Switches}
use Rattle.aoe.specs.Tools.{CopiesIn, CopiesOut, RunsTool, is_copy_status, is_tool_status}
use Rattle.aoe.specs.declared.status.Status.{Status}
use Rattle.aoe.specs.declared.status.Status.TheVariants as status

-- A run over files and their keeps, which were all mounted: it ended so, and the status says how.
pub record RanFiles {D S K L : Type 0} (state : D → DiskState) (options : ExportOptions) (p : Plan) (t : Tells S K L) (s : Status) (a b : Outside S K L) (disks disks' : List (Option D)) : Type 0 where
  pub exported : Exported
  pub run : IsExported state (held_back options.durable options.cache) (target_of options) options.first.minor t p exported a b disks disks'
  pub ends : s ≡ status_of exported

-- A run of the script that a source gave to its end, with its text on the sink: it ended so, and the status says how. But for a whole run
-- and where it failed, the sink is as it was.
pub record RanScript {S K : Type 0} (left : S → Option (List ℕ)) (held : K → Option (List ℕ)) (s : Status) (source source' : S) (sink sink' : K) : Type 0 where
  pub end : ReplayEnd
  pub run : Replayed end (left source) (left source') (held sink) (held sink')
  pub leaves : LeavesSink end sink sink'
  pub ends : s ≡ replayed_as end

-- A run of the script of `soak`, with the last line of its text on the sink: it ended so, and the status says how.
pub record RanSoak {K : Type 0} (held : K → Option (List ℕ)) (asked : Soak) (s : Status) (sink sink' : K) : Type 0 where
  pub end : ReplayEnd
  pub run : Sums end (soaked asked.seed asked.count) (held sink) (held sink')
  pub leaves : LeavesSink end sink sink'
  pub ends : s ≡ replayed_as end

-- a run of a command: over files, of the script that the source gives, of the script of `soak`, of a tool, of a switch, on a keep alone, or
-- of an audit
abbrev pub Ran : {D S K L : Type 0} → (D → DiskState) → Command → Tells S K L → Status → Outside S K L → Outside S K L → List (Option D) → List (Option D)
    → Type 0
Ran state (command.Answer answer) t s a b disks disks' = RanFiles state (answer_plan answer).0 (answer_plan answer).1 t s a b disks disks'
Ran state (command.Serve serve) t s a b disks disks' = RanFiles state (serve_plan serve).0 (serve_plan serve).1 t s a b disks disks'
Ran state (command.Mirror asked) t s a b disks disks' = (is_mirror_status asked.is_served s ≡ true) × LeavesOthers (mirror_plan asked) a b
Ran state command.Compare t s a b disks disks' = (is_compare_status s ≡ true) × (b.source ≡ a.source) × (b.links ≡ a.links)
Ran state command.Replay t s a b disks disks' = RanScript t.left t.held s a.source b.source a.sink b.sink × (b.links ≡ a.links) × (disks' ≡ disks)
Ran state (command.Soak asked) t s a b disks disks' = RanSoak t.held asked s a.sink b.sink × (b.source ≡ a.source) × (b.links ≡ a.links) × (disks' ≡ disks)
Ran state (command.Ask tool) t s a b disks disks' = (is_tool_status s ≡ true) × (b.source ≡ a.source) × (disks' ≡ disks)
Ran state (command.Get asked) t s a b disks disks' = (is_copy_status s ≡ true) × (b.source ≡ a.source) × (disks' ≡ disks)
Ran state (command.Put asked) t s a b disks disks' = (is_copy_status s ≡ true) × (b.sink ≡ a.sink) × (disks' ≡ disks)
Ran state (command.Nbd asked) t s a b disks disks' = (is_served_status s ≡ true) × (b.source ≡ a.source) × (b.sink ≡ a.sink) × (disks' ≡ disks)
Ran state (command.Live asked) t s a b disks disks' = (is_live_status s ≡ true) × (b.source ≡ a.source) × (disks' ≡ disks)
Ran state (command.Switch asked) t s a b disks disks' =
    Switches asked.ports.items s (t.left a.source) (t.left b.source) (t.held a.sink) (t.held b.sink) × (b.links ≡ a.links) × (disks' ≡ disks)
Ran state (command.Keep action) t s a b disks disks' =
    RunsKeep state action s (t.held a.sink) (t.held b.sink) disks disks' × (b.source ≡ a.source) × (b.links ≡ a.links)
Ran state (command.Audit asked) t s a b disks disks' =
    RunsAudit state asked s (t.left a.source) (t.left b.source) (t.held a.sink) (t.held b.sink) disks disks' × (b.links ≡ a.links)

-- a tool ran over the first link and a clock, and a sink took what it says
abbrev pub Asked : {K L : Type 0} → (K → Option (List ℕ)) → (L → L → Told) → Tool → Status → K → K → List L → List L → Type 0
Asked held told tool s sink sink' links links' = AtFirst (λ a b. RunsTool tool s (held sink) (held sink') (told a b)) links links'

-- `get` ran over the first link and a clock, and a sink took the sectors as they came
abbrev pub IsGot : {K L : Type 0} → (K → Option (List ℕ)) → (L → L → Told) → Get → Status → K → K → List L → List L → Type 0
IsGot held told asked s sink sink' links links' = AtFirst (λ a b. CopiesOut asked s (held sink) (held sink') (told a b)) links links'

-- `put` ran over a source, the first link and a clock
abbrev pub IsPut : {S L : Type 0} → (S → Option (List ℕ)) → (L → L → Told) → Put → Status → S → S → List L → List L → Type 0
IsPut left told asked s source source' links links' = AtFirst (λ a b. CopiesIn asked s (left source) (left source') (told a b)) links links'

-- `nbd` ran over the first link, a clock and a door
abbrev pub IsExportedTo : {L D : Type 0} → (D → DoorSeen) → (L → L → Told) → Nbd → Status → D → D → List L → List L → Type 0
IsExportedTo seen told asked s door door' links links' = AtFirst (λ a b. IsServedTo seen asked s door door' (told a b)) links links'

-- the script was run to its end, or until there was no memory or no room for a frame that it calls for
pub record HasReplayed (script : ScriptLines) (s : Status) : Type 0 where
  pub end : ReplayEnd
  pub run : HasRun end script
  pub ends : s ≡ replayed_as end

-- A run in which the keep of this slot was refused: those in front of it were mounted, and the files are as they were.
pub record Refused {D : Type 0} (state : D → DiskState) (s : Status) (slot : ℕ) (disks disks' : List (Option D)) : Type 0 where
  pub refusal : MountRefusal
  pub back : GivesBack state slot refusal disks disks'
  pub ends : s ≡ refused_as slot refusal

-- R of the file and the keep of a slot, before and after
abbrev pub OnSlot : {D : Type 0} → (D → D → D → D → Type 0) → ℕ → List (Option D) → List (Option D) → Type 0
OnSlot R slot disks disks' = (file file' keep keep' : _)
    → slice_get disks (file_at slot) ≡ Some (Some file) → slice_get disks' (file_at slot) ≡ Some (Some file')
    → slice_get disks (keep_at slot) ≡ Some (Some keep) → slice_get disks' (keep_at slot) ≡ Some (Some keep')
    → R file file' keep keep'

-- a crash changes no sector
abbrev pub NothingLoose : Contents → Type 0
NothingLoose c = (s : ℕ) → is_loose c.loose s ≡ false

-- the keep of a slot in front of this one was refused
abbrev pub refused_before : ℕ → Status → Bool
refused_before slot s = option_map_or (λ refused. nat_lt refused slot) (refused_slot s) false

-- a keep of fewer than 16 sectors, in front of which none was refused; memory wasn't wanting
abbrev pub IsSmall : DiskState → Status → ℕ → ℕ → Type 0
IsSmall keep s slot sectors = (sectors ≡ keep.sectors) × (sectors < 16) × (refused_before slot s ≡ false) × (s ≢ status.NoMemory)

-- a keep whose sectors were read, that slot of which holds no lists, and in front of which none was refused
abbrev pub IsBad : DiskState → Contents → Status → ℕ → ℕ → Type 0
IsBad keep c s slot bad = (16 ≤ keep.sectors) × (found c.bytes ≡ Err bad) × (refused_before slot s ≡ false) × (s ≢ status.DiskFault (keep_at slot)) × (s ≢ status.NoMemory)

-- a keep that tells its sectors, which hold these lists
pub record HasLists (keep : DiskState) (lists : Settings) : Type 0 where
  pub room : 16 ≤ keep.sectors
  pub contents : Contents
  pub told : keep.contents ≡ Some contents
  pub stand : found contents.bytes ≡ Ok lists
