-- A recorder, and what its steps do.
use Rattle.std.specs.Prelude.{ℕ, All, Bool, true, false, ◌≡◌, ◌<◌, ◌≤◌, ◌⊎◌, nat_lt, List, [], length, None}
use Rattle.aoe_base.specs.Sizes.{most_simulated}
use Rattle.aoe_history.specs.declared.entry.Entry.{Entry}
use Rattle.aoe_script.specs.declared.event.Event.{Event}
use Rattle.aoe_script.specs.Lines.{ScriptLines, most_events}
use Rattle.aoe_script.specs.Print.{event_words, line_text}
use Rattle.aoe_sim_setup.specs.Layout.{setup_of}
use Rattle.aoe_world.specs.Replay.{IsSound}
use Rattle.aoe_world.specs.Schedule.{ComesSome}
use Rattle.aoe_world.specs.World.{IsRefusedAt, Stepped}
use Rattle.aoe_world.specs.declared.refusal.WorldRefusal.{WorldRefusal}
use Rattle.aoe_world.specs.declared.refusal.WorldRefusal.TheVariants as world
use Rattle.aoe_world.specs.declared.refusal.WorldRefusal.TheVariants.{NetFull}
use Rattle.aoe_live.specs.declared.recorder.Recorder.{Recorder}
use Rattle.aoe_live.specs.declared.refusal.LiveRefusal.{LiveRefusal}
use Rattle.aoe_live.specs.declared.refusal.LiveRefusal.TheVariants as live
use Rattle.aoe_live.specs.Lines.{LineComes, LinesCome}
use Rattle.aoe_live.specs.Stations.{stations}
use Rattle.aoe_live.specs.Tally.{tally_of}

-- 50,000 lines of at most so many bytes and the setup lines are no longer than the text of a script may be
abbrev pub IsShort : Event → Type 0
IsShort e = length (line_text (event_words e)) ≤ 256

-- a world that goes on, by the lines of the script so far
pub record Follows (sectors : ℕ) (script : ScriptLines) (world : Stepped) : Type 0 where
  pub some : 1 ≤ sectors
  pub most : sectors ≤ most_simulated
  pub setups : script.setups ≡ stations sectors
  pub lines : world.lines ≡ stations sectors
  pub going : world.refused ≡ None
  pub count : world.events ≡ length script.events
  pub cursor : world.cursor ≡ 1
  pub few : length script.events ≤ most_events
  pub short : All IsShort script.events
  pub come : LinesCome sectors script.events [] world.entries
  pub sound : IsSound (setup_of (stations sectors)) world.entries

-- and all entries were looked at
pub record IsKept (r : Recorder) : Type 0 where
  pub follows : Follows r.sectors r.script r.world
  pub told : r.told ≡ length r.world.entries
  pub tally : r.tally ≡ tally_of r.world.entries

-- one of the two links failed
abbrev pub is_link : LiveRefusal → Bool
is_link (live.LinkFault link) = nat_lt link 2
is_link refusal = false

-- the line that wasn't recorded: it stands where no line more does, or the network has no room for its next frame, or there was no memory
-- for it, where one line more does stand; the history up to there is lawful and has the read law
abbrev pub Fails : ℕ → LiveRefusal → List Event → Event → List Entry → List Entry → Type 0
Fails sectors (live.Full limit frames bytes) events e h m =
    ComesSome (setup_of (stations sectors)) (stations sectors) e 1 h m
    × IsRefusedAt (setup_of (stations sectors)) (ComesSome (setup_of (stations sectors)) (stations sectors) e 1 h) m (NetFull limit frames bytes)
    × IsSound (setup_of (stations sectors)) m
Fails sectors live.TooMany events e h m = (most_events ≤ length events) × (m ≡ h) × IsSound (setup_of (stations sectors)) m
Fails sectors (live.Unanswered turns) events e h m = ⊥
Fails sectors (live.LinkFault link) events e h m = is_link (live.LinkFault link) ≡ true
Fails sectors live.NoMemory events e h m =
    (length events < most_events)
    × (ComesSome (setup_of (stations sectors)) (stations sectors) e 1 h m ⊎ LineComes sectors e h m)
    × IsSound (setup_of (stations sectors)) m

abbrev pub refusal_of : WorldRefusal → LiveRefusal
refusal_of world.NoMemory = live.NoMemory
refusal_of (NetFull limit frames bytes) = live.Full limit frames bytes

-- a line wasn't recorded, for want of room or of memory
abbrev pub is_unrecorded : LiveRefusal → Bool
is_unrecorded (live.Full limit frames bytes) = true
is_unrecorded live.TooMany = true
is_unrecorded live.NoMemory = true
is_unrecorded refusal = false

-- in which nothing happened yet
pub record IsFresh (r : Recorder) : Type 0 where
  pub no_lines : r.script.events ≡ []
  pub no_entries : r.world.entries ≡ []
  pub kept : IsKept r
