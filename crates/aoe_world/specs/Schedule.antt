-- What an event line of a script comes to: acts, each with its group of entries.
use Rattle.std.specs.Prelude.{ℕ, suc, ◌≡◌, ◌≤◌, ◌<◌, ◌-◌, ◌⊎◌, Bool, not, List, [], ◌∷◌, length, map, Option, Some, None, if◌then◌else◌}
use Rattle.std.specs.List.{filter}
use Rattle.std.specs.Option.{option_map_or}
use Rattle.arrayvec.specs.ArrayVec.{ArrayVec}
use Rattle.aoe_base.specs.declared.address.Mac.{Mac}
use Rattle.aoe_base.specs.Addresses.{broadcast, holds, same_address}
use Rattle.aoe_frame.specs.Header.{fields}
use Rattle.aoe_history.specs.Asks.{submission_in}
use Rattle.aoe_sim_setup.specs.Layout.{station_named, stations_of, Placed}
use Rattle.aoe_script.specs.declared.event.Event.{Event}
use Rattle.aoe_script.specs.declared.event.Event.TheVariants as event
use Rattle.aoe_script.specs.declared.setup.Setup.{Setup as Line}
use Rattle.aoe_history.specs.declared.entry.Entry.{Entry}
use Rattle.aoe_history.specs.Commands.{Submission}
use Rattle.aoe_history.specs.Frames.{arriving, frames}
use Rattle.aoe_history.specs.Groups.{Act, Follows, Group, IsBegun, Station}
use Rattle.aoe_history.specs.Groups.Act.{Arm, Crash, Hand, Inject, Lose, Submit, Tick}
use Rattle.aoe_history.specs.Groups.Station.{Shelf as ShelfStation, Host as HostStation}
use Rattle.aoe_history.specs.Setup.{Setup}

-- HANDING A FRAME OVER

-- a frame with this destination and this source is for the station with these ports: one of them is the destination; a frame for all
-- is for every station but its source
abbrev pub is_for : Mac → Mac → List Mac → Bool
is_for dst src ports = if same_address dst broadcast then not (holds ports src) else holds ports dst

abbrev pub gets : List ℕ → Placed → Bool
gets f place = is_for (fields f).dst (fields f).src place.ports

-- the stations that get the frame, in the order of their lines
abbrev pub addressees : List Placed → List ℕ → List Station
addressees places f = map (λ (p : Placed). p.station) (filter (gets f) places)

-- it is handed to each, or lost where there is none
abbrev pub hand_each : ℕ → List Station → List Act
hand_each frame [] = Lose frame ∷ []
hand_each frame (s ∷ stations) = map (Hand frame) (s ∷ stations)

-- the frame is handed to its addressees, or lost where it has none or can't be handed over any more
abbrev pub handings : Setup → List Placed → List Entry → ℕ → List Act
handings s places h frame = option_map_or (λ f. hand_each frame (addressees places f)) (arriving s.life h frame) (Lose frame ∷ [])

abbrev pub losses : List Entry → ℕ → List Act
losses h frame = Lose frame ∷ []

-- THE CURSOR

-- the acts of the frames from a cursor on, one frame after another: how many, and the cursor behind them
pub data Moves (s : Setup) (acts : List Entry → ℕ → List Act) (cursor : ℕ) (h : List Entry) : ℕ → ℕ → List Entry → Type 0 where
  moves_none : Moves s acts cursor h 0 cursor h
  moves_one : {n behind : ℕ} {m later : List Entry} → Moves s acts cursor h n behind m → behind ≤ length (frames m)
      → Follows s (acts m behind) m later → Moves s acts cursor h (suc n) (suc behind) later

-- so many frames, or all that there are
pub record MovesBy (s : Setup) (acts : List Entry → ℕ → List Act) (n cursor : ℕ) (h : List Entry) (behind : ℕ) (m : List Entry) : Type 0 where
  pub count : ℕ
  pub moves : Moves s acts cursor h count behind m
  pub ends : (count ≡ n) ⊎ ((count < n) × (length (frames m) < behind))

-- EVENTS

-- the station and the shelf that a name stands for
abbrev pub station_called : List Line → ArrayVec ℕ → Station
station_called lines name = option_map_or (λ (p : Placed). p.station) (station_named lines name) (HostStation name)

abbrev pub major_of : Station → ℕ
major_of (ShelfStation major) = major
major_of (HostStation name) = 0

-- a submission, where the line makes one
abbrev pub asks : ArrayVec ℕ → Option Submission → List Act
asks host None = []
asks host (Some x) = Submit host x.dev x.op ∷ []

-- the acts of a line that doesn't move the cursor
abbrev pub acts_of : Setup → List Line → ℕ → List Entry → Event → List Act
acts_of s lines cursor h (event.Read host dev at count) = asks host (submission_in (event.Read host dev at count))
acts_of s lines cursor h (event.Write host dev at count fill) = asks host (submission_in (event.Write host dev at count fill))
acts_of s lines cursor h (event.Flush host dev) = asks host (submission_in (event.Flush host dev))
acts_of s lines cursor h (event.Identify host dev) = asks host (submission_in (event.Identify host dev))
acts_of s lines cursor h (event.Config host dev ccmd text) = asks host (submission_in (event.Config host dev ccmd text))
acts_of s lines cursor h (event.Masks host dev edit dirs) = asks host (submission_in (event.Masks host dev edit dirs))
acts_of s lines cursor h (event.Reserve host dev rcmd list) = asks host (submission_in (event.Reserve host dev rcmd list))
acts_of s lines cursor h (event.Tick ms) = Tick ms ∷ []
acts_of s lines cursor h (event.Deliver frame name) = Hand frame (station_called lines name) ∷ []
acts_of s lines cursor h (event.Pass n) = []
acts_of s lines cursor h (event.Skip n) = []
acts_of s lines cursor h event.Again = handings s (stations_of lines) h (cursor - 1)
acts_of s lines cursor h (event.Inject bytes) = Inject bytes ∷ []
acts_of s lines cursor h (event.Fail dev which k) = Arm dev which k None ∷ []
acts_of s lines cursor h (event.Stop dev which k mode) = Arm dev which k (Some mode) ∷ []
acts_of s lines cursor h (event.Crash name mode) = Crash (major_of (station_called lines name)) mode ∷ []

-- what comes of an event line: the cursor and the history behind it
abbrev pub Comes : Setup → List Line → Event → ℕ → List Entry → ℕ → List Entry → Type 0
Comes s lines (event.Pass n) cursor h behind m = MovesBy s (handings s (stations_of lines)) n cursor h behind m
Comes s lines (event.Skip n) cursor h behind m = MovesBy s losses n cursor h behind m
Comes s lines e cursor h behind m = (behind ≡ cursor) × Follows s (acts_of s lines cursor h e) h m

-- AS FAR AS IT CAME, where no memory or no room was left

abbrev pub FollowsSome : Setup → List Act → List Entry → List Entry → Type 0
FollowsSome s [] h m = m ≡ h
FollowsSome s (act ∷ acts) h m = IsBegun s h act m ⊎ ((n : List Entry) × Group s h act n × FollowsSome s acts n m)

pub record MovesSome (s : Setup) (acts : List Entry → ℕ → List Act) (n cursor : ℕ) (h m : List Entry) : Type 0 where
  pub count : ℕ
  pub before : count < n
  pub behind : ℕ
  pub mid : List Entry
  pub moves : Moves s acts cursor h count behind mid
  pub there : behind ≤ length (frames mid)
  pub follows : FollowsSome s (acts mid behind) mid m

abbrev pub ComesSome : Setup → List Line → Event → ℕ → List Entry → List Entry → Type 0
ComesSome s lines (event.Pass n) cursor h m = MovesSome s (handings s (stations_of lines)) n cursor h m
ComesSome s lines (event.Skip n) cursor h m = MovesSome s losses n cursor h m
ComesSome s lines e cursor h m = FollowsSome s (acts_of s lines cursor h e) h m
