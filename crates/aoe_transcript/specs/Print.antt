-- The lines of a transcript: one for each entry of a history, of words that single spaces part.
use Rattle.std.specs.Prelude.{ℕ, ◌≡◌, ◌≢◌, ◌/◌, Bool, true, List, [], ◌∷◌, ◌++◌, length, map, reverse, Some, if◌then◌else◌, is_some, codes, decimal, slice_index, ⊤}
use Rattle.std.specs.List.{flat_map, join_with_byte}
use Rattle.arrayvec.specs.ArrayVec.{ArrayVec}
use Rattle.aoe_base.specs.Names.{device_text, pair_text}
use Rattle.aoe_base.specs.declared.address.TargetId.{TargetId}
use Rattle.aoe_history.specs.Asks.{op_of}
use Rattle.aoe_history.specs.declared.entry.Entry.{Entry}
use Rattle.aoe_history.specs.declared.entry.Entry.TheVariants.{Submitted, Refused, Sent, Injected, Arrived, Took, Done, Ticked, Lost, Armed, Crashed}
use Rattle.aoe_history.specs.declared.entry.Fate.{Fate}
use Rattle.aoe_history.specs.declared.entry.Fate.TheVariants.{Ignored, Silent, Cut, Replied}
use Rattle.aoe_initiator.specs.declared.op.Op.{Op}
use Rattle.aoe_initiator.specs.declared.op.Op.TheVariants.{Read as ReadOp, Write as WriteOp, Flush as FlushOp, Identify as IdentifyOp, Config as ConfigOp, Masks as MasksOp, Reserve as ReserveOp}
use Rattle.aoe_initiator.specs.declared.outcome.Outcome.{Outcome}
use Rattle.aoe_initiator.specs.declared.outcome.Outcome.TheVariants.{Read as GaveData, Written, Flushed, Told, AtaError, AoeError, GaveUp}
use Rattle.aoe_initiator.specs.declared.refusal.SubmitRefusal.{SubmitRefusal}
use Rattle.aoe_initiator.specs.declared.refusal.SubmitRefusal.TheVariants.{NoMemory, OutOfRange, TooLong, Backlog, Empty}
use Rattle.aoe_script.specs.Print.{bytes_text, event_words, line_text, lists_words, which_text}
use Rattle.aoe_script.specs.Rules.{is_event}
use Rattle.aoe_script.specs.Words.{Text}
use Rattle.aoe_script.specs.declared.event.Event.{Event}
use Rattle.aoe_script.specs.declared.event.Event.TheVariants.{Read, Write, Flush, Identify, Config, Masks, Reserve}
use Rattle.aoe_target.specs.declared.heard.Effect.{Effect}
use Rattle.aoe_target.specs.declared.heard.Effect.TheVariants.{None as NoEffect, Wrote, Synced, Edited, WriteFault, ReadFault, SyncFault, EditFault}
use Rattle.aoe_transcript.specs.Runs.{Run, longest_runs}

-- ---- what a host is asked for

-- an event line asks for it
pub record IsAsked (op : Op) : Type 0 where
  pub event : Event
  pub good : is_event event ≡ true
  pub same : op_of event ≡ Some op

-- the event line by which a host asks a device for it: all bytes of a write are as the first
abbrev pub asking : ArrayVec ℕ → TargetId → Op → Event
asking host dev (ReadOp span) = Read host dev span.at span.count
asking host dev (WriteOp at bytes) = Write host dev at (length bytes / 512) (slice_index bytes 0)
asking host dev FlushOp = Flush host dev
asking host dev IdentifyOp = Identify host dev
asking host dev (ConfigOp ccmd text) = Config host dev ccmd text
asking host dev (MasksOp edit dirs) = Masks host dev edit dirs
asking host dev (ReserveOp rcmd list) = Reserve host dev rcmd list

-- ---- words

-- bytes as their longest runs, joined by commas (44): a byte, an asterisk (42) and how often it stands there
abbrev pub repeated_text : Run → Text
repeated_text run = pair_text run.byte ++ 42 ∷ decimal run.count

abbrev pub runs_text : List ℕ → Text
runs_text bytes = join_with_byte 44 (map repeated_text (longest_runs bytes))

-- host and ticket, the first word of the event line, and its words behind the host
abbrev pub submit_words : ℕ → List Text → List Text
submit_words ticket (word ∷ host ∷ ws) = codes "submit" ∷ host ∷ decimal ticket ∷ word ∷ ws
submit_words ticket _ = []

-- being out of memory has no words
abbrev pub refusal_words : SubmitRefusal → List Text
refusal_words Empty = codes "empty" ∷ []
refusal_words (TooLong max) = codes "too-long" ∷ decimal max ∷ []
refusal_words OutOfRange = codes "out-of-range" ∷ []
refusal_words (Backlog held) = codes "backlog" ∷ decimal held ∷ []
refusal_words NoMemory = []

abbrev pub effect_words : Effect → List Text
effect_words NoEffect = codes "none" ∷ []
effect_words (Wrote span) = codes "wrote" ∷ decimal span.at ∷ decimal span.count ∷ []
effect_words Synced = codes "synced" ∷ []
effect_words Edited = codes "edited" ∷ []
effect_words (WriteFault span) = codes "write-fault" ∷ decimal span.at ∷ decimal span.count ∷ []
effect_words ReadFault = codes "read-fault" ∷ []
effect_words SyncFault = codes "sync-fault" ∷ []
effect_words EditFault = codes "edit-fault" ∷ []

abbrev pub fate_words : Fate → List Text
fate_words Ignored = codes "ignored" ∷ []
fate_words Silent = codes "silent" ∷ []
fate_words Cut = codes "cut" ∷ []
fate_words (Replied effect frame bytes) = effect_words effect ++ codes "reply" ∷ decimal frame ∷ []

abbrev pub outcome_words : Outcome → List Text
outcome_words (GaveData bytes) = codes "read" ∷ runs_text bytes ∷ []
outcome_words Written = codes "written" ∷ []
outcome_words Flushed = codes "flushed" ∷ []
outcome_words (Told args) = codes "told" ∷ bytes_text args.items ∷ []
outcome_words (AtaError status error) = codes "ata" ∷ pair_text status ∷ pair_text error ∷ []
outcome_words (AoeError code) = codes "aoe" ∷ decimal code ∷ []
outcome_words (GaveUp first latest) = codes "gave-up" ∷ []

-- whether the power is lost in the call for which a disk is armed, or only the call fails
abbrev pub armed_text : Bool → Text
armed_text stops = if stops then codes "stop" else codes "fail"

-- ---- lines

abbrev pub entry_words : Entry → List Text
entry_words (Submitted host ticket dev op) = submit_words ticket (event_words (asking host dev op))
entry_words (Refused host refusal) = codes "refuse" ∷ host.items ∷ refusal_words refusal
entry_words (Sent host ticket frame bytes) = codes "sent" ∷ host.items ∷ decimal ticket ∷ decimal frame ∷ []
entry_words (Injected frame bytes) = codes "inject" ∷ decimal frame ∷ []
entry_words (Arrived dev frame fate) = codes "arrive" ∷ device_text dev ∷ decimal frame ∷ fate_words fate
entry_words (Took host frame stale) = codes "took" ∷ host.items ∷ decimal frame ∷ (if stale then codes "stale" ∷ [] else [])
entry_words (Done host ticket outcome) = codes "done" ∷ host.items ∷ decimal ticket ∷ outcome_words outcome
entry_words (Ticked ms) = codes "tick" ∷ decimal ms ∷ []
entry_words (Lost frame) = codes "lost" ∷ decimal frame ∷ []
entry_words (Armed dev which k mode) = codes "armed" ∷ device_text dev ∷ which_text which ∷ armed_text (is_some mode) ∷ decimal k ∷ []
entry_words (Crashed dev lists mode) = codes "crashed" ∷ device_text dev ∷ lists_words lists

abbrev pub entry_text : Entry → Text
entry_text entry = line_text (entry_words entry)

-- a host refused for a cause, and not because it was out of memory
abbrev pub HasCause : SubmitRefusal → Type 0
HasCause refusal = refusal ≢ NoMemory

-- what was submitted is what an event line asks for, and what was refused was refused for a cause
abbrev pub CanPrint : Entry → Type 0
CanPrint (Submitted host ticket dev op) = IsAsked op
CanPrint (Refused host refusal) = HasCause refusal
CanPrint _ = ⊤

-- what was submitted is what an event line asks for
abbrev pub IsFromLine : Entry → Type 0
IsFromLine (Submitted host ticket dev op) = IsAsked op
IsFromLine _ = ⊤

-- the lines of a history, the oldest first; its latest entry stands in front
abbrev pub history_text : List Entry → Text
history_text h = flat_map entry_text (reverse h)
