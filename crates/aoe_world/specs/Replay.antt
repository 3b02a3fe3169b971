-- What a replay takes, gives and leaves, by how it ended.
use Rattle.std.specs.Prelude.{ℕ, ◌+◌, ◌-◌, ◌^◌, ◌<◌, ◌≤◌, ◌≡◌, ◌⊎◌, List, [], ◌∷◌, length, take, slice_get, Option, Some, None}
use Rattle.aoe_io.specs.Bytes.{Gave, GaveSome, Took, TookSome, IsEnded}
use Rattle.aoe_io.specs.Input.{input_piece, IsReadInPart, IsReadUpTo}
use Rattle.aoe_net.specs.declared.refusal.NetLimit.{NetLimit}
use Rattle.aoe_history.specs.declared.entry.Entry.{Entry}
use Rattle.aoe_history.specs.Frames.{frames}
use Rattle.aoe_history.specs.Lawful.{IsLawful}
use Rattle.aoe_history.specs.Reading.{HasReadLaw}
use Rattle.aoe_history.specs.Setup.{Setup}
use Rattle.aoe_sim_setup.specs.Layout.{setup_of}
use Rattle.aoe_history.specs.Run.{IsWithin, MeetsFull}
use Rattle.aoe_script.specs.declared.event.Event.{Event}
use Rattle.aoe_script.specs.declared.refusal.ScriptRefusal.{ScriptRefusal}
use Rattle.aoe_script.specs.declared.refusal.ScriptRefusal.TheVariants.{BadLine, TooMany, TooLong}
use Rattle.aoe_script.specs.declared.refusal.ScriptRefusal.TheVariants as script
use Rattle.aoe_script.specs.declared.setup.Setup.{Setup as Line}
use Rattle.aoe_script.specs.Lines.{most_script_bytes, refusal, script_of, IsWanting, ScriptLines}
use Rattle.aoe_transcript.specs.Counts.{run_text, summary_of}
use Rattle.aoe_transcript.specs.Summary.{summary_text}
use Rattle.aoe_world.specs.declared.part.Part.{Part}
use Rattle.aoe_world.specs.declared.part.Part.TheVariants.{Whole, Summary}
use Rattle.aoe_world.specs.declared.refusal.WorldRefusal.{WorldRefusal}
use Rattle.aoe_world.specs.declared.refusal.WorldRefusal.TheVariants as refused
use Rattle.aoe_world.specs.Schedule.{Comes, ComesSome}
use Rattle.aoe_world.specs.declared.end.ReplayEnd.{ReplayEnd}
use Rattle.aoe_world.specs.declared.end.ReplayEnd.TheVariants.{Ended, SourceFault, SinkFault, NoMemory, Script, Limit}
use Rattle.aoe_world.specs.declared.end.ReplayLimit.TheVariants.{ScriptBytes, Events, Net}

-- ---- events

-- the events came one after the other from a cursor and a history on: the cursor and the history behind them
abbrev pub Plays : Setup → List Line → List Event → ℕ → List Entry → ℕ → List Entry → Type 0
Plays s lines [] cursor h behind m = (behind ≡ cursor) × (m ≡ h)
Plays s lines (event ∷ events) cursor h behind m =
    (next_cursor : ℕ) × (next_h : List Entry) × Comes s lines event cursor h next_cursor next_h × Plays s lines events next_cursor next_h behind m

-- a history that is lawful, in which what is read is what was written, and whose frames a network has room for
pub record IsSound (s : Setup) (h : List Entry) : Type 0 where
  pub lawful : IsLawful s h
  pub reading : HasReadLaw s h
  pub room : IsWithin (frames h)

-- all events of a script came, from an empty history and the first frame on
pub record Played (script : ScriptLines) : Type 0 where
  pub entries : List Entry
  pub cursor : ℕ
  pub plays : Plays (setup_of script.setups) script.setups script.events 1 [] cursor entries
  pub sound : IsSound (setup_of script.setups) entries

-- the first so many came and of the next a part, and there was no room, by this limit, for the frame that this one calls for next
pub record Filled (limit : NetLimit) (script : ScriptLines) : Type 0 where
  pub count : ℕ
  pub event : Event
  pub is_next : slice_get script.events count ≡ Some event
  pub cursor : ℕ
  pub before : List Entry
  pub plays : Plays (setup_of script.setups) script.setups (take count script.events) 1 [] cursor before
  pub entries : List Entry
  pub begins : ComesSome (setup_of script.setups) script.setups event cursor before entries
  pub sound : IsSound (setup_of script.setups) entries
  pub full : MeetsFull (setup_of script.setups) (ComesSome (setup_of script.setups) script.setups event cursor before) limit entries

-- how a script ends whose events didn't all come: there was no memory, or no room for a frame that it calls for
abbrev pub Stops : ReplayEnd → ScriptLines → Type 0
Stops NoMemory script = Unit {0}
Stops (Limit (Net limit)) script = Filled limit script
Stops (Limit ScriptBytes) script = ⊥
Stops (Limit Events) script = ⊥
Stops (Script line why) script = ⊥
Stops Ended script = ⊥
Stops SourceFault script = ⊥
Stops SinkFault script = ⊥

-- ---- the run of a script

-- of the text of a run: all of it, or the line behind those of its history, which says how much happened
abbrev pub part_text : Part → ℕ → List Entry → List ℕ
part_text Whole events h = run_text events h
part_text Summary events h = summary_text (summary_of events h)

abbrev pub text_of : Part → (script : ScriptLines) → Played script → List ℕ
text_of part script run = part_text part (length script.events) run.entries

-- what became of a script, and what the sink took: that part of the text at the end, a front of it where the sink failed, and else nothing
abbrev pub RunsTo : Part → ReplayEnd → ScriptLines → Option (List ℕ) → Option (List ℕ) → Type 0
RunsTo part Ended script held held' = (run : Played script) × Took held held' (text_of part script run)
RunsTo part SinkFault script held held' = (run : Played script) × TookSome held held' (text_of part script run)
RunsTo part NoMemory script held held' = held' ≡ held
RunsTo part (Limit (Net limit)) script held held' = Stops (Limit (Net limit)) script × (held' ≡ held)
RunsTo part (Limit ScriptBytes) script held held' = ⊥
RunsTo part (Limit Events) script held held' = ⊥
RunsTo part (Script line why) script held held' = ⊥
RunsTo part SourceFault script held held' = ⊥

-- the same with the whole text, and with its last line
abbrev pub Runs : ReplayEnd → ScriptLines → Option (List ℕ) → Option (List ℕ) → Type 0
Runs = RunsTo Whole

abbrev pub Sums : ReplayEnd → ScriptLines → Option (List ℕ) → Option (List ℕ) → Type 0
Sums = RunsTo Summary

-- ---- the text of a script

-- the source gave this text to its end
pub record GaveAll (left left' : Option (List ℕ)) (text : List ℕ) : Type 0 where
  pub gave : Gave left left' text
  pub ended : IsEnded left'
  pub short : length text ≤ most_script_bytes

-- it gave more bytes than a script has, and no more than one read (65,536 bytes) behind that
pub record GaveMore (left left' : Option (List ℕ)) : Type 0 where
  pub text : List ℕ
  pub gave : Gave left left' text
  pub long : most_script_bytes < length text
  pub within : length text ≤ most_script_bytes + input_piece

-- its text to its end is refused for this
abbrev pub Refuses : Option (List ℕ) → Option (List ℕ) → ScriptRefusal → Type 0
Refuses left left' cause = (text : List ℕ) × GaveAll left left' text × (refusal text ≡ Some cause)

-- its text to its end spells a script, which had this end
abbrev pub Spells : ReplayEnd → Option (List ℕ) → Option (List ℕ) → Option (List ℕ) → Option (List ℕ) → Type 0
Spells end left left' held held' =
    (text : List ℕ) × GaveAll left left' text × (refusal text ≡ None) × Runs end (script_of text) held held'

-- There was no memory: for the next bytes of a text that isn't too long so far; for a line of a text that came whole, where nothing is
-- wrong before that line; or for the run of a text that spells a script.
abbrev pub Wants : Option (List ℕ) → Option (List ℕ) → Type 0
Wants left left' = IsReadInPart most_script_bytes left left' ⊎ ((text : List ℕ) × GaveAll left left' text × (IsWanting text ⊎ (refusal text ≡ None)))

-- ---- a replay

abbrev pub Replayed : ReplayEnd → Option (List ℕ) → Option (List ℕ) → Option (List ℕ) → Option (List ℕ) → Type 0
Replayed Ended left left' held held' = Spells Ended left left' held held'
Replayed SinkFault left left' held held' = Spells SinkFault left left' held held'
Replayed (Limit (Net limit)) left left' held held' = Spells (Limit (Net limit)) left left' held held'
Replayed (Limit ScriptBytes) left left' held held' = GaveMore left left' × (held' ≡ held)
Replayed (Limit Events) left left' held held' = Refuses left left' TooMany × (held' ≡ held)
Replayed (Script line why) left left' held held' = Refuses left left' (BadLine line why) × (held' ≡ held)
Replayed SourceFault left left' held held' = GaveSome left left' × (held' ≡ held)
Replayed NoMemory left left' held held' = Wants left left' × (held' ≡ held)

-- but at the end and where it failed, the sink is as it was
abbrev pub LeavesSink : {T : Type 0} → ReplayEnd → T → T → Type 0
LeavesSink Ended before after = Unit {0}
LeavesSink SinkFault before after = Unit {0}
LeavesSink (Limit limit) before after = after ≡ before
LeavesSink (Script line why) before after = after ≡ before
LeavesSink SourceFault before after = after ≡ before
LeavesSink NoMemory before after = after ≡ before

-- a count of faults that didn't rise, where it isn't at its type's end
pub record IsFaultless (before after : ℕ) : Type 0 where
  pub room : before < 2 ^ 64 - 1
  pub same : after ≡ before

-- How a script ends that isn't refused, where neither source nor sink fails: its events all came, or there was no memory or
-- no room. So a script of which no run meets a limit ends, where there is memory.
abbrev pub HasRun : ReplayEnd → ScriptLines → Type 0
HasRun end script = (end ≡ Ended) ⊎ Stops end script

-- ---- steps of a replay

-- why no text came
abbrev pub Unread : ReplayEnd → Option (List ℕ) → Option (List ℕ) → Type 0
Unread SourceFault left left' = GaveSome left left'
Unread NoMemory left left' = IsReadInPart most_script_bytes left left'
Unread (Limit limit) left left' = ⊥
Unread (Script line why) left left' = ⊥
Unread Ended left left' = ⊥
Unread SinkFault left left' = ⊥

-- what was read of a source: all of it where that isn't more than a script has
abbrev pub IsRead : Option (List ℕ) → Option (List ℕ) → List ℕ → Type 0
IsRead left left' text = IsReadUpTo most_script_bytes left left' text

-- how a replay ends whose text is refused
abbrev pub refused_as : ScriptRefusal → ReplayEnd
refused_as script.NoMemory = NoMemory
refused_as (BadLine line why) = Script line why
refused_as TooMany = Limit Events
refused_as TooLong = Limit ScriptBytes

-- why a text spells no script
abbrev pub IsRefusedAs : ReplayEnd → List ℕ → Type 0
IsRefusedAs NoMemory text = IsWanting text
IsRefusedAs (Script line why) text = (length text ≤ most_script_bytes) × (refusal text ≡ Some (BadLine line why))
IsRefusedAs (Limit Events) text = (length text ≤ most_script_bytes) × (refusal text ≡ Some TooMany)
IsRefusedAs (Limit ScriptBytes) text = most_script_bytes < length text
IsRefusedAs (Limit (Net limit)) text = ⊥
IsRefusedAs Ended text = ⊥
IsRefusedAs SourceFault text = ⊥
IsRefusedAs SinkFault text = ⊥

-- what the sink took of a text
abbrev pub TakesText : ReplayEnd → Option (List ℕ) → Option (List ℕ) → List ℕ → Type 0
TakesText Ended held held' text = Took held held' text
TakesText SinkFault held held' text = TookSome held held' text
TakesText NoMemory held held' text = held' ≡ held
TakesText (Limit limit) held held' text = ⊥
TakesText (Script line why) held held' text = ⊥
TakesText SourceFault held held' text = ⊥

-- how a replay ends whose world goes no further
abbrev pub end_of : WorldRefusal → ReplayEnd
end_of refused.NoMemory = NoMemory
end_of (refused.NetFull limit frames bytes) = Limit (Net limit)
