-- How much happens in a history, and the whole text of a run.
use Rattle.std.specs.Prelude.{ℕ, ◌+◌, Bool, true, false, ◌&&◌, nat_eq, List, [], ◌∷◌, ◌++◌, length, count_by, if◌then◌else◌}
use Rattle.std.specs.List.{list_any}
use Rattle.std.specs.Str.{bytes_eq}
use Rattle.aoe_history.specs.declared.entry.Entry.{Entry}
use Rattle.aoe_history.specs.declared.entry.Entry.TheVariants.{Sent, Arrived, Done, Lost, Crashed}
use Rattle.aoe_history.specs.Frames.{frames}
use Rattle.aoe_script.specs.Words.{Text}
use Rattle.aoe_transcript.specs.Print.{history_text}
use Rattle.aoe_transcript.specs.Summary.{summary_text}
use Rattle.aoe_transcript.specs.declared.summary.Summary.{Summary}

-- ---- kinds of entries

abbrev pub is_sent : Entry → Bool
is_sent (Sent host ticket frame bytes) = true
is_sent _ = false

abbrev pub is_arrived : Entry → Bool
is_arrived (Arrived dev frame fate) = true
is_arrived _ = false

abbrev pub is_done : Entry → Bool
is_done (Done host ticket outcome) = true
is_done _ = false

abbrev pub is_lost : Entry → Bool
is_lost (Lost frame) = true
is_lost _ = false

abbrev pub is_crashed : Entry → Bool
is_crashed (Crashed dev lists mode) = true
is_crashed _ = false

-- ---- frames that aren't the first of their command

-- the entry sends a frame of this command: each host counts its tickets
abbrev pub sends : List ℕ → ℕ → Entry → Bool
sends host ticket (Sent name number frame bytes) = bytes_eq name.items host && nat_eq number ticket
sends host ticket _ = false

-- the entry sends a frame of a command of which one was sent before
abbrev pub sends_again : Entry → List Entry → Bool
sends_again (Sent host ticket frame bytes) h = list_any (sends host.items ticket) h
sends_again _ h = false

-- the frames of a history that weren't the first of their command
abbrev pub repeats : List Entry → ℕ
repeats [] = 0
repeats (entry ∷ h) = repeats h + (if sends_again entry h then 1 else 0)

-- ---- a run

-- how much happened in the run of a script of so many events
abbrev pub summary_of : ℕ → List Entry → Summary
summary_of events h = record {
  events = events;
  frames = length (frames h);
  sent = count_by is_sent h;
  again = repeats h;
  arrived = count_by is_arrived h;
  done = count_by is_done h;
  lost = count_by is_lost h;
  crashed = count_by is_crashed h;
}

-- the lines of all that happened, and the summary behind them
abbrev pub run_text : ℕ → List Entry → Text
run_text events h = history_text h ++ summary_text (summary_of events h)
