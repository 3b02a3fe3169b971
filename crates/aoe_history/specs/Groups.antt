-- Which entries come of the acts of a schedule: a group for each.
use Rattle.std.specs.Prelude.{ℕ, suc, ◌≡◌, ◌≢◌, ◌⊎◌, true, false, List, [], ◌∷◌, Option, Some, None, MatchOption, All, if◌then◌else◌}
use Rattle.std.specs.Option.{option_and_then}
use Rattle.std.specs.Str.{bytes_eq}
use Rattle.arrayvec.specs.ArrayVec.{ArrayVec}
use Rattle.aoe_base.specs.declared.address.TargetId.{TargetId}
use Rattle.aoe_base.specs.declared.counted.Millis.{Millis}
use Rattle.aoe_disk.specs.declared.loss.Loss.{Loss}
use Rattle.aoe_flight.specs.Outstanding.{is_expired}
use Rattle.aoe_initiator.specs.declared.op.Op.{Op}
use Rattle.aoe_initiator.specs.declared.outcome.Outcome.{Outcome}
use Rattle.aoe_initiator.specs.declared.outcome.Outcome.TheVariants.{GaveUp}
use Rattle.aoe_initiator.specs.declared.refusal.SubmitRefusal.{SubmitRefusal}
use Rattle.aoe_initiator.specs.HostLaw.{submit_refusal, IsQuiet}
use Rattle.aoe_initiator.specs.HostLog.{sent_of}
use Rattle.aoe_lists.specs.Settings.{Settings}
use Rattle.aoe_history.specs.declared.entry.Entry.{Entry}
use Rattle.aoe_history.specs.declared.entry.Entry.TheVariants.{Submitted, Refused, Sent, Injected, Arrived, Took, Done, Ticked, Lost, Armed, Crashed}
use Rattle.aoe_history.specs.declared.entry.Fate.{Fate}
use Rattle.aoe_history.specs.declared.entry.Fate.TheVariants.{Cut}
use Rattle.aoe_script.specs.declared.event.Which.{Which}
use Rattle.aoe_history.specs.Commands.{commands_of, host_after, tickets}
use Rattle.aoe_history.specs.Frames.{arriving, clock, next_number}
use Rattle.aoe_history.specs.HostLaw.{IsResponse, IsStale}
use Rattle.aoe_history.specs.Setup.{device_no, host_called, is_called, shelf_of, HostSetup, Setup, SlotSetup}
use Rattle.aoe_history.specs.ShelfLaw.{calls, stretch}

-- a station that a frame is handed to
pub data Station : Type 0 where
  Shelf : (major : ℕ) → Station
  Host : (name : ArrayVec ℕ) → Station

-- one act of a schedule: a command is submitted, time goes by, a frame comes from elsewhere, a disk is armed, a shelf loses its
-- power, a frame is handed to a station, or it is lost
pub data Act : Type 0 where
  Submit : (host : ArrayVec ℕ) (dev : TargetId) → Op → Act
  Tick : (ms : ℕ) → Act
  Inject : (bytes : List ℕ) → Act
  Arm : (dev : TargetId) → Which → (k : ℕ) → Option Loss → Act
  Crash : (major : ℕ) → Loss → Act
  Hand : (frame : ℕ) → Station → Act
  Lose : (frame : ℕ) → Act

-- THE ENTRIES OF AN ACT

-- a response that ended a command
pub record Got : Type 0 where
  pub host : HostSetup
  pub ticket : ℕ
  pub outcome : Outcome

-- each slot of a shelf loses its power
abbrev pub CrashEach : Loss → List SlotSetup → List Entry → List Entry → Type 0
CrashEach how [] h m = m ≡ h
CrashEach how (slot ∷ slots) h m = (lists : Settings) × CrashEach how slots (Crashed slot.station.id lists how ∷ h) m

-- the frame makes the slot call a disk whose stop is to leave this
pub record IsStop (slot : SlotSetup) (h : List Entry) (f : List ℕ) (how : Loss) : Type 0 where
  pub which : Which
  pub called : calls which slot h f ≡ true
  pub mode : option_and_then (λ x. x.mode) (stretch which slot h) ≡ Some how

-- a frame comes to each slot in turn, up to the first that loses its power
abbrev pub ArriveAtEach : ℕ → List ℕ → List SlotSetup → List SlotSetup → List Entry → List Entry → Type 0
ArriveAtEach frame f shelf [] h m = m ≡ h
ArriveAtEach frame f shelf (slot ∷ slots) h m =
    ((fate : Fate) × (fate ≢ Cut) × ArriveAtEach frame f shelf slots (Arrived slot.station.id frame fate ∷ h) m)
    ⊎ ((how : Loss) × IsStop slot h f how × CrashEach how shelf (Arrived slot.station.id frame Cut ∷ h) m)

-- a host takes a frame: the response that ends a command, or a stale one
abbrev pub Takes : Setup → HostSetup → ArrayVec ℕ → ℕ → List ℕ → List Entry → Option Got → List Entry → Type 0
Takes s host name frame f h (Some got) m =
    (got.host ≡ host) × IsResponse s host h f got.ticket got.outcome × (m ≡ Took name frame false ∷ h)
Takes s host name frame f h None m = IsStale s host h f × (m ≡ Took name frame true ∷ h)

-- a frame that can be handed over comes to the station
abbrev pub ComesTo : Setup → ℕ → List ℕ → Station → List Entry → Option Got → List Entry → Type 0
ComesTo s frame f (Shelf major) h got m = (got ≡ None) × ArriveAtEach frame f (shelf_of s major) (shelf_of s major) h m
ComesTo s frame f (Host name) h got m = (host : HostSetup) × (host_called s name ≡ Some host) × Takes s host name frame f h got m

-- a command is taken, or refused
abbrev pub submit_entry : Setup → HostSetup → List Entry → ArrayVec ℕ → TargetId → Op → Option SubmitRefusal → Entry
submit_entry s host h name dev op None = Submitted name (suc (tickets host h)) dev op
submit_entry s host h name dev op (Some refusal) = Refused name refusal

abbrev pub submitted_as : Setup → HostSetup → List Entry → ArrayVec ℕ → TargetId → Op → Entry
submitted_as s host h name dev op = submit_entry s host h name dev op (submit_refusal (host_after s host h) (device_no host dev).0 op)

-- the act makes these entries, and of a response this command has its outcome
abbrev pub Enters : Setup → List Entry → Act → Option Got → List Entry → Type 0
Enters s h (Submit name dev op) got m = (got ≡ None) × ((host : HostSetup) × (host_called s name ≡ Some host) × (m ≡ submitted_as s host h name dev op ∷ h))
Enters s h (Tick ms) got m = (got ≡ None) × (m ≡ Ticked ms ∷ h)
Enters s h (Inject bytes) got m = (got ≡ None) × (m ≡ Injected (next_number h) bytes ∷ h)
Enters s h (Arm dev which k mode) got m = (got ≡ None) × (m ≡ Armed dev which k mode ∷ h)
Enters s h (Crash major how) got m = (got ≡ None) × CrashEach how (shelf_of s major) h m
Enters s h (Hand frame station) got m =
    MatchOption (arriving s.life h frame) ((got ≡ None) × (m ≡ Lost frame ∷ h)) (λ f. ComesTo s frame f station h got m)
Enters s h (Lose frame) got m = (got ≡ None) × (m ≡ Lost frame ∷ h)

-- THE TURN OF A HOST

-- the outcome of the response, where it is this host's
abbrev pub told : ArrayVec ℕ → HostSetup → Option Got → List Entry → List Entry
told name host None h = h
told name host (Some got) h = if bytes_eq got.host.name host.name then Done name got.ticket got.outcome ∷ h else h

-- some commands are given up
pub data GivesUp (name : ArrayVec ℕ) (h : List Entry) : List Entry → Type 0 where
  gives_none : GivesUp name h h
  gives_one : {m : List Entry} (ticket : ℕ) (first now : Millis) → GivesUp name h m → GivesUp name h (Done name ticket (GaveUp first now) ∷ m)

-- some frames are sent
pub data SendsSome (name : ArrayVec ℕ) (h : List Entry) : List Entry → Type 0 where
  sends_none : SendsSome name h h
  sends_one : {m : List Entry} (ticket number : ℕ) (bytes : List ℕ) → SendsSome name h m → SendsSome name h (Sent name ticket number bytes ∷ m)

-- a host's turn: the outcome of its response, then what it gives up, until no command is waited for too long, then what it sends, until
-- nothing may be sent
pub record Turn (s : Setup) (host : HostSetup) (got : Option Got) (h m : List Entry) : Type 0 where
  pub name : ArrayVec ℕ
  pub called : is_called host name ≡ true
  pub mid : List Entry
  pub gives_up : GivesUp name (told name host got h) mid
  pub none_late : All (λ o. is_expired host.dead (clock mid) o ≡ false) (sent_of (commands_of host mid))
  pub sends : SendsSome name mid m
  pub none_next : IsQuiet (host_after s host m) (commands_of host m)

abbrev pub Turns : Setup → List HostSetup → Option Got → List Entry → List Entry → Type 0
Turns s [] got h m = m ≡ h
Turns s (host ∷ hosts) got h m = (n : List Entry) × Turn s host got h n × Turns s hosts got n m

-- the group of an act: its entries, then the turn of each host in their order
pub record Group (s : Setup) (h : List Entry) (act : Act) (m : List Entry) : Type 0 where
  pub got : Option Got
  pub entered : List Entry
  pub enters : Enters s h act got entered
  pub turns : Turns s s.hosts got entered m

-- a history goes on by a group for each act
abbrev pub Follows : Setup → List Act → List Entry → List Entry → Type 0
Follows s [] h m = m ≡ h
Follows s (act ∷ acts) h m = (n : List Entry) × Group s h act n × Follows s acts n m

-- THE BEGINNING OF A GROUP, where no memory or no room was left

abbrev pub CrashSome : Loss → List SlotSetup → List Entry → List Entry → Type 0
CrashSome how [] h m = m ≡ h
CrashSome how (slot ∷ slots) h m = (m ≡ h) ⊎ ((lists : Settings) × CrashSome how slots (Crashed slot.station.id lists how ∷ h) m)

abbrev pub ArriveAtSome : ℕ → List ℕ → List SlotSetup → List SlotSetup → List Entry → List Entry → Type 0
ArriveAtSome frame f shelf [] h m = m ≡ h
ArriveAtSome frame f shelf (slot ∷ slots) h m =
    (m ≡ h)
    ⊎ ((fate : Fate) × (fate ≢ Cut) × ArriveAtSome frame f shelf slots (Arrived slot.station.id frame fate ∷ h) m)
    ⊎ ((how : Loss) × IsStop slot h f how × CrashSome how shelf (Arrived slot.station.id frame Cut ∷ h) m)

-- the entries of an act, as far as they came
abbrev pub EntersSome : Setup → List Entry → Act → List Entry → Type 0
EntersSome s h (Crash major how) m = CrashSome how (shelf_of s major) h m
EntersSome s h (Hand frame (Shelf major)) m =
    MatchOption (arriving s.life h frame) (m ≡ h) (λ f. ArriveAtSome frame f (shelf_of s major) (shelf_of s major) h m)
EntersSome s h act m = m ≡ h

-- a host's turn, as far as it came
abbrev pub TurnSome : HostSetup → Option Got → List Entry → List Entry → Type 0
TurnSome host got h m =
    (name : ArrayVec ℕ) × (is_called host name ≡ true)
    × ((m ≡ h) ⊎ GivesUp name (told name host got h) m
    ⊎ ((mid : List Entry) × GivesUp name (told name host got h) mid
    × All (λ o. is_expired host.dead (clock mid) o ≡ false) (sent_of (commands_of host mid)) × SendsSome name mid m))

abbrev pub TurnsSome : Setup → List HostSetup → Option Got → List Entry → List Entry → Type 0
TurnsSome s [] got h m = m ≡ h
TurnsSome s (host ∷ hosts) got h m = TurnSome host got h m ⊎ ((n : List Entry) × Turn s host got h n × TurnsSome s hosts got n m)

-- the group of an act, as far as it came
abbrev pub IsBegun : Setup → List Entry → Act → List Entry → Type 0
IsBegun s h act m =
    EntersSome s h act m ⊎ ((got : Option Got) × (entered : List Entry) × Enters s h act got entered × TurnsSome s s.hosts got entered m)
