-- What a run over two links is, and how it ends.
use Rattle.std.specs.Prelude.{ℕ, ◌≡◌, Bool, true, false, List, [], ◌∷◌, None, Option, Result, Ok, Err, IfOk}
use Rattle.aoe_io.specs.Bytes.{Took, TookSome}
use Rattle.aoe_io.specs.Link.{Turn}
use Rattle.aoe_live.specs.Stations.{stations}
use Rattle.aoe_live.specs.Rounds.{wire}
use Rattle.aoe_live.specs.Whole.{outside, Lives, Outside}
use Rattle.aoe_live.specs.declared.refusal.LiveRefusal.{LiveRefusal}
use Rattle.aoe_live.specs.declared.refusal.LiveRefusal.TheVariants as refusal
use Rattle.aoe_script.specs.Lines.{refusal as text_refusal, script_of}
use Rattle.aoe_script.specs.Print.{script_text}
use Rattle.aoe_script.specs.declared.event.Event.{Event}
use Rattle.aoe_args.specs.declared.command.Live.{Live}
use Rattle.aoe_base.specs.Faults.{Blamed}
use Rattle.aoe.specs.declared.status.Status.{Status}
use Rattle.aoe.specs.declared.status.Status.TheVariants as status
use Rattle.aoe.specs.Ending.{net_excess}
use Rattle.aoe.specs.declared.status.What.TheVariants as what

-- the status of a run that gave no script
abbrev pub live_status : LiveRefusal → Status
live_status refusal.NoMemory = status.NoMemory
live_status (refusal.LinkFault link) = status.LinkFault link
live_status (refusal.Unanswered turns) = status.Unanswered turns
live_status (refusal.Full limit frames bytes) = status.Limit (net_excess limit)
live_status refusal.TooMany = status.Limit what.Events

-- the statuses that it can end with
abbrev pub is_live_status : Status → Bool
is_live_status status.Ok = true
is_live_status status.SinkFault = true
is_live_status (status.LinkFault link) = true
is_live_status status.NoMemory = true
is_live_status (status.Unanswered turns) = true
is_live_status (status.Limit excess) = true
is_live_status s = false

-- the script of these lines, behind those of the stations
abbrev pub recorded : ℕ → List Event → List ℕ
recorded sectors events = script_text (record { setups = stations sectors; events = events })

-- what becomes of it: the script is written, whole or where the sink fails a front of it; a refusal is the status
abbrev pub WritesScript : ℕ → Status → Result (List Event) LiveRefusal → Option (List ℕ) → Option (List ℕ) → Type 0
WritesScript sectors status.Ok (Ok events) held held' = Took held held' (recorded sectors events)
WritesScript sectors status.SinkFault (Ok events) held held' = TookSome held held' (recorded sectors events)
WritesScript sectors s (Ok events) held held' = ⊥
WritesScript sectors s (Err r) held held' = (s ≡ live_status r) × (held' ≡ held)

-- a replay takes it, and runs these lines
pub record ReadsBack (sectors : ℕ) (events : List Event) : Type 0 where
  pub accepted : text_refusal (recorded sectors events) ≡ None
  pub spells : script_of (recorded sectors events) ≡ record { setups = stations sectors; events = events }

-- a run over two links and a clock: it ended so, and a sink took what was recorded
pub record RunsLive (asked : Live) (s : Status) (held held' : Option (List ℕ)) (old new : Outside) : Type 0 where
  pub result : Result (List Event) LiveRefusal
  pub reads : IfOk result (ReadsBack asked.sectors)
  pub lives : Lives asked.sectors asked.count asked.turns result old new
  pub writes : WritesScript asked.sectors s result held held'

-- the two links and a clock, by what each tells of itself
abbrev pub ends : {C L : Type 0} → (C → Option (List ℕ)) → (L → ℕ) → (L → Option (List Turn)) → (L → Option (List (List ℕ))) → L → L → C → Outside
ends answers turns given taken one two clock =
    outside (wire (turns one) (given one) (taken one)) (wire (turns two) (given two) (taken two)) (answers clock)

-- R of two links, before and after
abbrev pub AtBoth : {L : Type 0} → (L → L → L → L → Type 0) → List L → List L → Type 0
AtBoth R (one ∷ two ∷ []) (one' ∷ two' ∷ []) = R one one' two two'
AtBoth R links links' = ⊥

-- each of the two links failed at most once, by its count, and just where the status says so
pub record AreBlamed (s : Status) (one one' two two' : ℕ) : Type 0 where
  pub first : Blamed (s ≡ status.LinkFault 0) one one'
  pub second : Blamed (s ≡ status.LinkFault 1) two two'
