-- A world: a script's setup lines, and what came of the events so far.
use Rattle.std.specs.Prelude.{ℕ, suc, ◌≡◌, ◌*◌, ◌≤◌, List, length, All, Option, None, IfSome, Result, Ok, Err}
use Rattle.aoe_net.specs.declared.refusal.NetRefusal.{NetRefusal}
use Rattle.aoe_net.specs.declared.refusal.NetRefusal.TheVariants as net
use Rattle.aoe_net.specs.Network.{total_bytes}
use Rattle.aoe_history.specs.declared.entry.Entry.{Entry}
use Rattle.aoe_history.specs.Commands.{tickets}
use Rattle.aoe_history.specs.Frames.{clock, frames, network}
use Rattle.aoe_history.specs.Lawful.{IsLawful}
use Rattle.aoe_history.specs.Setup.{HostSetup, IsSetup, Setup}
use Rattle.aoe_sim_setup.specs.Layout.{majors_of, setup_of, stations_of}
use Rattle.aoe_history.specs.Run.{network_of, IsWithin, MeetsFull, Recorded}
use Rattle.aoe_script.specs.declared.event.Event.{Event}
use Rattle.aoe_script.specs.declared.setup.Setup.{Setup as Line}
use Rattle.aoe_script.specs.Lines.{IsScript, ScriptLines}
use Rattle.aoe_script.specs.Rules.{longest_wait}
use Rattle.aoe_transcript.specs.Print.{IsFromLine}
use Rattle.aoe_world.specs.declared.place.Place.{Place}
use Rattle.aoe_world.specs.declared.refusal.WorldRefusal.{WorldRefusal}
use Rattle.aoe_world.specs.declared.refusal.WorldRefusal.TheVariants.{NetFull, NoMemory}
use Rattle.aoe_world.specs.declared.sim.Sim.{Sim}
use Rattle.aoe_world.specs.Schedule.{Comes, ComesSome}
use Rattle.aoe_world.specs.Sim.{ArePlaces, IsLeft, IsNetwork, IsReady}

-- what contracts see: the setup lines, what happened (the latest first), the number of the frame that is passed or skipped next, how
-- many events were stepped, and why it goes no further
pub record Stepped : Type 0 where
  pub lines : List Line
  pub entries : List Entry
  pub cursor : ℕ
  pub events : ℕ
  pub refused : Option WorldRefusal

-- a network that is full has so many frames and bytes
abbrev pub IsCounted : Setup → List Entry → WorldRefusal → Type 0
IsCounted s h NoMemory = Unit {0}
IsCounted s h (NetFull limit count bytes) = (count ≡ length (frames h)) × (bytes ≡ total_bytes (network s.life h))

-- why a world goes no further whose run was refused a frame, or memory
abbrev pub refused_with : Recorded → NetRefusal → WorldRefusal
refused_with run net.NoMemory = NoMemory
refused_with run (net.Full limit) = NetFull limit (length (frames run.entries)) (total_bytes (network_of run))

-- what has begun is refused for a frame that it calls for next, and for which the network has no room by this limit; or there was no memory
abbrev pub IsRefusedAt : Setup → (List Entry → Type 0) → List Entry → WorldRefusal → Type 0
IsRefusedAt s begins h NoMemory = Unit {0}
IsRefusedAt s begins h (NetFull limit count bytes) = IsCounted s h (NetFull limit count bytes) × MeetsFull s begins limit h

-- the stations of a script's setup lines, and a cursor on the frames so far or just behind them
pub record IsStaged (script : ScriptLines) (places : List Place) (sim : Sim) (cursor : ℕ) : Type 0 where
  pub good : IsScript script
  pub network_is : IsNetwork (setup_of script.setups) (majors_of script.setups)
  pub places_are : ArePlaces (setup_of script.setups) (majors_of script.setups) (stations_of script.setups) places
  pub from_one : 1 ≤ cursor
  pub within : cursor ≤ suc (length (frames sim.run.entries))

-- what came of an event
abbrev pub Runs : {T : Type 0} → Result T NetRefusal → List Line → Event → (cursor behind : ℕ) → Sim → Sim → Type 0
Runs (Ok u) lines e cursor behind old new =
    Comes (setup_of lines) lines e cursor old.run.entries behind new.run.entries × IsReady (setup_of lines) (majors_of lines) new
    × (1 ≤ behind) × (behind ≤ suc (length (frames new.run.entries)))
Runs (Err refusal) lines e cursor behind old new =
    IsLeft (setup_of lines) (ComesSome (setup_of lines) lines e cursor old.run.entries) refusal new.run.entries

-- what holds of a world as long as it goes on: its stations are what the history says of them, and neither its time nor its tickets run
-- out within 50,000 events
pub record IsGoing (script : ScriptLines) (places : List Place) (sim : Sim) (cursor events : ℕ) : Type 0 where
  pub staged : IsStaged script places sim cursor
  pub ready : IsReady (setup_of script.setups) (majors_of script.setups) sim
  pub time : clock sim.run.entries ≤ longest_wait * events
  pub tickets_are : (host : HostSetup) → tickets host sim.run.entries ≤ events

-- what holds of the fields of a world
pub record IsWorld (script : ScriptLines) (places : List Place) (sim : Sim) (cursor events : ℕ) (refused : Option WorldRefusal) : Type 0 where
  pub setup : IsSetup (setup_of script.setups)
  pub lawful : IsLawful (setup_of script.setups) sim.run.entries
  pub room : IsWithin (frames sim.run.entries)
  pub lines_are : All IsFromLine sim.run.entries
  pub going : refused ≡ None → IsGoing script places sim cursor events
  pub refusal : IfSome refused (IsCounted (setup_of script.setups) sim.run.entries)
