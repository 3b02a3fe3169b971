-- Events that come one after the other.
use Rattle.std.proofs.Common.{◌≡◌, ◌∙◌, ◌+◌, ℕ, zero, suc, List, [], ◌∷◌, take, Some, None, refl, add-one, arith}
use Rattle.std.specs.Prelude.{slice_get}
use Rattle.std.proofs.lemmas.Option.{same_Some}
use Rattle.aoe_history.specs.declared.entry.Entry.{Entry}
use Rattle.aoe_history.specs.Setup.{Setup}
use Rattle.aoe_sim_setup.specs.Layout.{setup_of}
use Rattle.aoe_script.specs.declared.event.Event.{Event}
use Rattle.aoe_script.specs.declared.setup.Setup.{Setup as Line}
use Rattle.aoe_script.specs.Lines.{ScriptLines}
use Rattle.aoe_world.specs.Schedule.{Comes, ComesSome}
use Rattle.aoe_world.specs.declared.refusal.WorldRefusal.{WorldRefusal}
use Rattle.aoe_world.specs.declared.refusal.WorldRefusal.TheVariants as refused
use Rattle.aoe_world.specs.declared.refusal.WorldRefusal.TheVariants.{NetFull}
use Rattle.aoe_world.specs.World.{IsRefusedAt, Stepped}
use Rattle.aoe_world.specs.Replay.{end_of, IsSound, Plays, Stops}

module _ (s : Setup) (lines : List Line) where
  plays_on : (events : List Event) (i : ℕ) (event : Event) (cursor : ℕ) (h : List Entry) (middle : ℕ) (m : List Entry) (behind : ℕ) (later : List Entry)
      → slice_get events i ≡ Some event → Plays s lines (take i events) cursor h middle m → Comes s lines event middle m behind later
      → Plays s lines (take (suc i) events) cursor h behind later
  plays_on (e ∷ events) zero event cursor h middle m behind later is plays comes =
      (behind, later, rw (same_Some e event is, ← plays.0, ← plays.1) comes, (refl, refl))
  plays_on (e ∷ events) (suc i) event cursor h middle m behind later is plays comes =
      (plays.0, plays.1, plays.2, plays_on events i event plays.0 plays.1 middle m behind later is plays.3 comes)
  plays_on [] _ event cursor h middle m behind later is plays comes = absurd cc

-- the first so many events of a script came in this world
pub record IsPlayed (script : ScriptLines) (i : ℕ) (world : Stepped) : Type 0 where
  pub lines_are : world.lines ≡ script.setups
  pub counted : world.events ≡ i
  pub goes_on : world.refused ≡ None
  pub plays : Plays (setup_of script.setups) script.setups (take i script.events) 1 [] world.cursor world.entries

-- one more came
pub one_played : {script : ScriptLines} {i : ℕ} {old : Stepped} {event : Event} (new : Stepped) → IsPlayed script i old → slice_get script.events i ≡ Some event
    → Comes (setup_of old.lines) old.lines event old.cursor old.entries new.cursor new.entries → new.lines ≡ old.lines → new.events ≡ old.events + 1
    → new.refused ≡ None → IsPlayed script (i + 1) new
one_played {script} {i} {old} {event} new before is comes lines counted goes = record {
  lines_are = lines ∙ before.lines_are;
  counted = omega (arith, counted, before.counted);
  goes_on = goes;
  plays = rw (add-one i) (plays_on (setup_of script.setups) script.setups script.events i event 1 [] old.cursor old.entries new.cursor new.entries
      is before.plays (rw before.lines_are at comes));
}

-- of the next a part came
module _ {script : ScriptLines} {i : ℕ} {old : Stepped} {event : Event} (new : Stepped) (before : IsPlayed script i old)
    (is : slice_get script.events i ≡ Some event) (begins : ComesSome (setup_of old.lines) old.lines event old.cursor old.entries new.entries)
    (lines : new.lines ≡ old.lines) (sound : IsSound (setup_of new.lines) new.entries) where
  abbrev begun : List Line → List Entry → Type 0
  begun l = ComesSome (setup_of l) l event old.cursor old.entries

  pub stops : (refusal : WorldRefusal) → IsRefusedAt (setup_of old.lines) (begun old.lines) new.entries refusal → Stops (end_of refusal) script
  stops refused.NoMemory at = tt
  stops (NetFull limit frames bytes) (count, full) = record {
    count = i;
    event = event;
    is_next = is;
    cursor = old.cursor;
    before = old.entries;
    plays = before.plays;
    entries = new.entries;
    begins = rw before.lines_are at begins;
    sound = rw (lines ∙ before.lines_are) at sound;
    full = rw before.lines_are at full;
  }
