-- The stations of a world between two acts, and within one.
use Rattle.std.specs.Prelude.{ℕ, suc, ◌≡◌, ◌≢◌, ◌<◌, ◌≤◌, true, false, List, length, slice_get, Option, Some, Result, Ok, Err}
use Rattle.arrayvec.specs.ArrayVec.{ArrayVec}
use Rattle.aoe_history.specs.declared.entry.Entry.{Entry}
use Rattle.aoe_history.specs.Frames.{frames}
use Rattle.aoe_history.specs.Groups.{Act, Enters, Follows, Got, Group, IsBegun, Station, Turns, TurnsSome}
use Rattle.aoe_history.specs.Groups.Station.{Shelf as ShelfStation, Host as HostStation}
use Rattle.aoe_history.specs.Lawful.{IsLawful}
use Rattle.aoe_history.specs.Setup.{host_called, is_called, shelf_of, AreSlots, HostSetup, IsSetup, Setup}
use Rattle.aoe_sim_hosts.specs.Host.{Awaits, IsSettled, SimHost}
use Rattle.aoe_sim_setup.specs.Layout.{Placed}
use Rattle.aoe_sim_shelves.specs.Shelf.{SimShelf, Serves}
use Rattle.aoe_net.specs.declared.refusal.NetLimit.{NetLimit}
use Rattle.aoe_net.specs.declared.refusal.NetRefusal.{NetRefusal}
use Rattle.aoe_net.specs.declared.refusal.NetRefusal.TheVariants.{Full}
use Rattle.aoe_history.specs.Run.{MeetsFull}
use Rattle.aoe_world.specs.declared.sim.Sim.{Sim}
use Rattle.aoe_world.specs.Schedule.{FollowsSome, MovesBy, MovesSome}
use Rattle.aoe_world.specs.declared.act.At.{At}
use Rattle.aoe_world.specs.declared.act.At.TheVariants as at
use Rattle.aoe_world.specs.declared.place.Place.{Place}

-- hosts of different names, and shelves of different numbers
pub record IsNetwork (s : Setup) (majors : List ℕ) : Type 0 where
  pub setup : IsSetup s
  pub called : (i : ℕ) (host : HostSetup) (name : ArrayVec ℕ) → slice_get s.hosts i ≡ Some host → is_called host name ≡ true
      → host_called s name ≡ Some host
  pub names : (i j : ℕ) (a b : HostSetup) (name : ArrayVec ℕ) → slice_get s.hosts i ≡ Some a → slice_get s.hosts j ≡ Some b → i ≢ j
      → is_called a name ≡ true → is_called b name ≡ false
  pub majors_differ : (i j a b : ℕ) → slice_get majors i ≡ Some a → slice_get majors j ≡ Some b → i ≢ j → a ≢ b
  pub slots : (i major : ℕ) → slice_get majors i ≡ Some major → AreSlots s (shelf_of s major)

-- each host had its turn
pub record AllSettled (s : Setup) (h : List Entry) (hosts : List SimHost) : Type 0 where
  pub count : length hosts ≡ length s.hosts
  pub each : (i : ℕ) (host : HostSetup) (x : SimHost) → slice_get s.hosts i ≡ Some host → slice_get hosts i ≡ Some x → IsSettled s host h x

-- the hosts before the k-th had their turn, and the others didn't
pub record HadTurns (s : Setup) (got : Option Got) (h : List Entry) (k : ℕ) (hosts : List SimHost) : Type 0 where
  pub count : length hosts ≡ length s.hosts
  pub settled : (i : ℕ) (host : HostSetup) (x : SimHost) → slice_get s.hosts i ≡ Some host → slice_get hosts i ≡ Some x → i < k → IsSettled s host h x
  pub waiting : (i : ℕ) (host : HostSetup) (x : SimHost) → slice_get s.hosts i ≡ Some host → slice_get hosts i ≡ Some x → k ≤ i → Awaits s host got h x

-- each shelf is what the history says of it
pub record AllServe (s : Setup) (majors : List ℕ) (h : List Entry) (shelves : List SimShelf) : Type 0 where
  pub count : length shelves ≡ length majors
  pub number : (i major : ℕ) (x : SimShelf) → slice_get majors i ≡ Some major → slice_get shelves i ≡ Some x → x.shelf.major ≡ major
  pub each : (i major : ℕ) (x : SimShelf) → slice_get majors i ≡ Some major → slice_get shelves i ≡ Some x → Serves (shelf_of s major) h x

-- a world between two acts
pub record IsReady (s : Setup) (majors : List ℕ) (sim : Sim) : Type 0 where
  pub life : sim.run.life ≡ s.life
  pub lawful : IsLawful s sim.run.entries
  pub hosts_are : AllSettled s sim.run.entries sim.hosts.items
  pub shelves_are : AllServe s majors sim.run.entries sim.shelves.items

-- a world in an act, before the turn of the k-th host
pub record IsTurning (s : Setup) (majors : List ℕ) (got : Option Got) (k : ℕ) (sim : Sim) : Type 0 where
  pub life : sim.run.life ≡ s.life
  pub lawful : IsLawful s sim.run.entries
  pub hosts_are : HadTurns s got sim.run.entries k sim.hosts.items
  pub shelves_are : AllServe s majors sim.run.entries sim.shelves.items

-- What a refusal leaves: a beginning that is lawful, and where the network was full, no room by that limit for the next frame that it
-- calls for.
pub record IsLeft (s : Setup) (begins : List Entry → Type 0) (refusal : NetRefusal) (h : List Entry) : Type 0 where
  pub begun : begins h
  pub lawful : IsLawful s h
  pub full : (limit : NetLimit) → refusal ≡ Full limit → MeetsFull s begins limit h

-- each host had its turn, or as many as could
abbrev pub Settles : {T : Type 0} → Result T NetRefusal → Setup → List ℕ → Option Got → Sim → Sim → Type 0
Settles (Ok u) s majors got old new = Turns s s.hosts got old.run.entries new.run.entries × IsReady s majors new
Settles (Err refusal) s majors got old new = IsLeft s (TurnsSome s s.hosts got old.run.entries) refusal new.run.entries

-- an act was done: its group of entries, or as much of it as could come
abbrev pub Does : {T : Type 0} → Result T NetRefusal → Setup → List ℕ → Act → Sim → Sim → Type 0
Does (Ok u) s majors act old new = Group s old.run.entries act new.run.entries × IsReady s majors new
Does (Err refusal) s majors act old new = IsLeft s (IsBegun s old.run.entries act) refusal new.run.entries

-- the entries of an act have come, and the hosts wait for their turns; or as much of it came as could
abbrev pub IsEntered : {T : Type 0} → Result T NetRefusal → Setup → List ℕ → Act → Sim → Sim → Type 0
IsEntered (Ok u) s majors act old new = (got : Option Got) × Enters s old.run.entries act got new.run.entries × IsTurning s majors got 0 new
IsEntered (Err refusal) s majors act old new = IsLeft s (IsBegun s old.run.entries act) refusal new.run.entries

-- acts were done one after another
abbrev pub DoesAll : {T : Type 0} → Result T NetRefusal → Setup → List ℕ → List Act → Sim → Sim → Type 0
DoesAll (Ok u) s majors acts old new = Follows s acts old.run.entries new.run.entries × IsReady s majors new
DoesAll (Err refusal) s majors acts old new = IsLeft s (FollowsSome s acts old.run.entries) refusal new.run.entries

-- the frames from a cursor on were treated, so many or all that there were, and the cursor stands behind them
abbrev pub Moved : {T : Type 0} → Result T NetRefusal → Setup → List ℕ → (List Entry → ℕ → List Act) → (n cursor behind : ℕ) → Sim → Sim → Type 0
Moved (Ok u) s majors acts n cursor behind old new =
    MovesBy s acts n cursor old.run.entries behind new.run.entries × IsReady s majors new × (1 ≤ behind) × (behind ≤ suc (length (frames new.run.entries)))
Moved (Err refusal) s majors acts n cursor behind old new = IsLeft s (MovesSome s acts n cursor old.run.entries) refusal new.run.entries

-- where a station stands among the shelves or the hosts
abbrev pub IsAt : Setup → List ℕ → At → Station → Type 0
IsAt s majors (at.Shelf i) (ShelfStation major) = slice_get majors i ≡ Some major
IsAt s majors (at.Host i) (HostStation name) = (host : HostSetup) × (slice_get s.hosts i ≡ Some host) × (is_called host name ≡ true)
IsAt s majors place other = ⊥

-- the stations in the order of their lines
pub record ArePlaces (s : Setup) (majors : List ℕ) (stations : List Placed) (places : List Place) : Type 0 where
  pub count : length places ≡ length stations
  pub each : (i : ℕ) (p : Placed) (place : Place) → slice_get stations i ≡ Some p → slice_get places i ≡ Some place
      → (place.name ≡ p.name) × (place.ports.items ≡ p.ports) × IsAt s majors place.at p.station

-- a station stands there
abbrev pub IsInside : At → Sim → Type 0
IsInside (at.Shelf i) sim = i < length sim.shelves.items
IsInside (at.Host i) sim = i < length sim.hosts.items

-- the places are those of the stations of a network that is ready
pub record HasPlaces (places : List Place) (sim : Sim) : Type 0 where
  pub setup : Setup
  pub majors : List ℕ
  pub stations : List Placed
  pub network_is : IsNetwork setup majors
  pub ready : IsReady setup majors sim
  pub places_are : ArePlaces setup majors stations places
