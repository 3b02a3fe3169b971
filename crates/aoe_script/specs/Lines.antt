-- What the lines of a text spell.
use Rattle.std.specs.Prelude.{ℕ, All, zero, suc, ◌+◌, ◌≡◌, ◌≤◌, ◌⊎◌, Bool, true, false, option_and_then, List, [], ◌∷◌, ◌++◌, length, map, take, nat_lt, nat_le, slice_get, Option, Some, None, if◌then◌else◌, IfSome, Result, Ok, Err}
use Rattle.std.specs.List.{filter_map}
use Rattle.std.specs.Option.{option_or}
use Rattle.std.specs.Str.Lines.{lines}
use Rattle.aoe_script.specs.declared.event.Event.{Event}
use Rattle.aoe_script.specs.declared.line.Line.{Line}
use Rattle.aoe_script.specs.declared.line.Line.TheVariants.{Blank, Declares, Asks, Bad}
use Rattle.aoe_script.specs.declared.refusal.Why.{Why}
use Rattle.aoe_script.specs.declared.refusal.ScriptRefusal.{ScriptRefusal}
use Rattle.aoe_script.specs.declared.refusal.ScriptRefusal.TheVariants.{NoMemory, BadLine, TooMany, TooLong}
use Rattle.aoe_script.specs.declared.setup.Setup.{Setup}
use Rattle.aoe_script.specs.Forms.{line_of, takes_memory}
use Rattle.aoe_script.specs.Rules.{event_why, setup_why}
use Rattle.aoe_script.specs.Types.{FitsEvent, FitsSetup}
use Rattle.aoe_script.specs.Words.{Text, few_words}

-- the most bytes of a script, which memory holds whole: 16 MiB, a limit of this program
abbrev pub most_script_bytes : ℕ
most_script_bytes = 16777216

-- the most lines behind those of the setup, a limit of this program
abbrev pub most_events : ℕ
most_events = 50000

-- the setup lines and the event lines of a script, each in their order
pub record ScriptLines : Type 0 where
  pub setups : List Setup
  pub events : List Event

-- nothing is wrong with a setup line behind those in front of it
abbrev pub AreGood : List Setup → Type 0
AreGood setups = (k : ℕ) → IfSome (slice_get setups k) (λ setup. setup_why (take k setups) false setup ≡ None)

-- a script is made of lines of which none has anything wrong behind those before it; their fields fit their types
pub record IsScript (lines : ScriptLines) : Type 0 where
  pub setups : AreGood lines.setups
  pub events : (k : ℕ) → IfSome (slice_get lines.events k) (λ event. event_why lines.setups event ≡ None)
  pub few_setups : length lines.setups ≤ most_script_bytes
  pub few_events : length lines.events ≤ most_events
  pub setups_fit : All FitsSetup lines.setups
  pub events_fit : All FitsEvent lines.events

-- the lines that declare, and those that ask
abbrev pub declared : Line → Option Setup
declared (Declares setup) = Some setup
declared _ = None

abbrev pub asked : Line → Option Event
asked (Asks event) = Some event
asked _ = None

abbrev pub lines_of : List Line → ScriptLines
lines_of said = record { setups = filter_map declared said; events = filter_map asked said }

-- what is wrong with a line behind these
abbrev pub why : ScriptLines → Line → Option Why
why before Blank = None
why before (Declares setup) = setup_why before.setups (nat_lt 0 (length before.events)) setup
why before (Asks event) = event_why before.setups event
why before (Bad cause) = Some cause

-- it is an event line, and there are as many before it as there may be
abbrev pub is_over : ScriptLines → Line → Bool
is_over before (Asks event) = nat_le most_events (length before.events)
is_over before _ = false

-- why a text is refused for the line of this number, if at all
abbrev pub refused_for : ℕ → Option Why → Bool → Option ScriptRefusal
refused_for number (Some cause) over = Some (BadLine number cause)
refused_for number None over = if over then Some TooMany else None

abbrev pub line_refusal : ℕ → ScriptLines → Line → Option ScriptRefusal
line_refusal number before line = refused_for number (why before line) (is_over before line)

-- the same of the line at a place, from 0, of these
abbrev pub refusal_at : List Line → ℕ → Option ScriptRefusal
refusal_at said k = option_and_then (line_refusal (k + 1) (lines_of (take k said))) (slice_get said k)

-- for the first of the first n
abbrev pub first_refusal : List Line → ℕ → Option ScriptRefusal
first_refusal said zero = None
first_refusal said (suc k) = option_or (first_refusal said k) (refusal_at said k)

-- what the lines of a text say
unfoldable pub said_by : Text → List Line
said_by text = map line_of (lines text)

-- why a text is refused, if at all: for its length, and else for the first line that is bad or one event too many
unfoldable pub refusal : Text → Option ScriptRefusal
refusal text = if nat_lt most_script_bytes (length text) then Some TooLong else first_refusal (said_by text) (length (said_by text))

-- the script that a text spells, where it isn't refused
abbrev pub script_of : Text → ScriptLines
script_of text = lines_of (said_by text)

-- it fails for this cause alone, or because it is out of memory
abbrev pub FailsFor : {T : Type 0} → Option ScriptRefusal → Result T ScriptRefusal → Type 0
FailsFor cause (Ok value) = cause ≡ None
FailsFor cause (Err NoMemory) = Unit {0}
FailsFor cause (Err (BadLine line why)) = cause ≡ Some (BadLine line why)
FailsFor cause (Err TooMany) = cause ≡ Some TooMany
FailsFor cause (Err TooLong) = cause ≡ Some TooLong

-- What holds where there is no memory for the next line of a text: nothing is wrong with the lines before it, and either nothing
-- with it, or it takes memory for itself.
pub record IsWanting (text : Text) : Type 0 where
  pub short : length text ≤ most_script_bytes
  pub place : ℕ
  pub line : Text
  pub is_next : slice_get (lines text) place ≡ Some line
  pub good : first_refusal (said_by text) place ≡ None
  pub wants : (refusal_at (said_by text) place ≡ None) ⊎ (takes_memory (few_words line) ≡ true)

-- a script with one line more
abbrev pub with_line : ScriptLines → Line → ScriptLines
with_line before (Declares setup) = record before { setups = before.setups ++ setup ∷ [] }
with_line before (Asks event) = record before { events = before.events ++ event ∷ [] }
with_line before _ = before
