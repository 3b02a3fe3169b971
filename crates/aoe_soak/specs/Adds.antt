-- A script with more events at its end.
use Rattle.std.specs.Prelude.{◌≡◌, ◌++◌, List, None}
use Rattle.aoe_script.specs.declared.event.Event.{Event}
use Rattle.aoe_script.specs.Lines.{ScriptLines}
use Rattle.aoe_script.specs.Rules.{event_why}

abbrev pub with_events : ScriptLines → List Event → ScriptLines
with_events script events = record script { events = script.events ++ events }

-- nothing is wrong with the event behind its setup lines
abbrev pub Takes : ScriptLines → Event → Type 0
Takes script event = event_why script.setups event ≡ None
