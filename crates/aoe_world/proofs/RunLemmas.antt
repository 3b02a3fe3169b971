-- What becomes of a script, and of the sink.
use Rattle.std.proofs.Common.{inl, inr, ◌≡◌, ◌∙◌, ◌≤◌, ℕ, List, [], ◌++◌, length, Option, Some, None, refl, sym, ap, arith}
use Rattle.std.proofs.lemmas.List.{length-append, append-nil}
use Rattle.aoe_base.specs.Faults.{Rose}
use Rattle.aoe_io.specs.Bytes.{Gave}
use Rattle.aoe_history.specs.declared.entry.Entry.{Entry}
use Rattle.aoe_history.proofs.LogicLemmas.{some-mapped}
use Rattle.aoe_sim_setup.specs.Layout.{setup_of}
use Rattle.aoe_script.specs.declared.refusal.ScriptRefusal.{ScriptRefusal}
use Rattle.aoe_world.specs.World.{Stepped}
use Rattle.aoe_script.specs.Lines.{ScriptLines, refusal, script_of}
use Rattle.aoe_world.specs.declared.part.Part.{Part}
use Rattle.aoe_world.specs.declared.end.ReplayEnd.{ReplayEnd}
use Rattle.aoe_world.specs.declared.end.ReplayEnd.TheVariants.{Ended, SourceFault, SinkFault, NoMemory, Script, Limit}
use Rattle.aoe_world.specs.declared.end.ReplayLimit.TheVariants.{ScriptBytes, Events, Net}
use Rattle.aoe_world.specs.Replay.{GaveAll, IsFaultless, IsRead, IsRefusedAs, IsSound, HasRun, LeavesSink, Played, Plays, Refuses, Replayed, Runs, RunsTo, Spells, Stops, Unread, TakesText, part_text, text_of}
use Rattle.aoe_world.proofs.TextLemmas.{short_none}

pub left_alone : {T : Type 0} (end : ReplayEnd) (a : T) → LeavesSink end a a
left_alone Ended a = tt
left_alone SinkFault a = tt
left_alone _ a = refl

-- ---- the run of a script

pub finished : (part : Part) (end : ReplayEnd) (script : ScriptLines) (held held' : Option (List ℕ)) (run : Played script)
    → TakesText end held held' (text_of part script run) → RunsTo part end script held held'
finished part Ended script held held' run writes = (run, writes)
finished part SinkFault script held held' run writes = (run, writes)
finished part NoMemory script held held' run writes = writes
finished part _ script held held' run writes = absurd writes

-- all events of a script came in a world, and this part of the text of its history was written
pub finished_in : (part : Part) (end : ReplayEnd) (script : ScriptLines) (held held' : Option (List ℕ)) (world : Stepped) (count : ℕ) (entries : List Entry)
    → world.lines ≡ script.setups → Plays (setup_of script.setups) script.setups script.events 1 [] world.cursor world.entries
    → IsSound (setup_of world.lines) world.entries
    → count ≡ length script.events → entries ≡ world.entries → TakesText end held held' (part_text part count entries) → RunsTo part end script held held'
finished_in part end script held held' world count entries lines plays sound counted same writes =
    finished part end script held held' (record { entries = world.entries; cursor = world.cursor; plays = plays; sound = rw lines at sound })
    (rw (counted, same) at writes)

pub stopped : (part : Part) (end : ReplayEnd) (script : ScriptLines) (held : Option (List ℕ)) → Stops end script → RunsTo part end script held held
stopped part NoMemory script held stops = refl
stopped part (Limit (Net limit)) script held stops = (stops, refl)
stopped part Ended script held stops = absurd stops
stopped part SinkFault script held stops = absurd stops
stopped part _ script held stops = stops

pub stops_no_sink : (end : ReplayEnd) (script : ScriptLines) → Stops end script → end ≡ SinkFault → ⊥
stops_no_sink end script stops e = rw e at stops

-- ---- a replay

module _ (left left' held : Option (List ℕ)) where
  pub unread : (end : ReplayEnd) → Unread end left left' → Replayed end left left' held held
  unread SourceFault u = (u, refl)
  unread NoMemory u = (inl u, refl)
  unread _ u = absurd u

module _ (left left' : Option (List ℕ)) (text : List ℕ) (read : IsRead left left' text) where
  gave_all : length text ≤ 16777216 → GaveAll left left' text
  gave_all short = record { gave = read.gave; ended = read.ended short; short = short }

  pub refused : (end : ReplayEnd) (held : Option (List ℕ)) → IsRefusedAs end text → Replayed end left left' held held
  refused NoMemory held r = (inr (text, gave_all r.short, inl r), refl)
  refused (Script line why) held r = ((text, gave_all r.0, r.1), refl)
  refused (Limit Events) held r = ((text, gave_all r.0, r.1), refl)
  refused (Limit ScriptBytes) held r = (record { text = text; gave = read.gave; long = r; within = read.within }, refl)
  refused _ held r = absurd r

  module _ (held held' : Option (List ℕ)) (good : refusal text ≡ None) where
    spelled : (end : ReplayEnd) → Runs end (script_of text) held held' → Spells end left left' held held'
    spelled end runs = (text, gave_all (short_none text good), good, runs)

    ran_script : (end : ReplayEnd) → Runs end (script_of text) held held' → Replayed end left left' held held'
    ran_script Ended runs = spelled Ended runs
    ran_script SinkFault runs = spelled SinkFault runs
    ran_script (Limit (Net limit)) runs = spelled (Limit (Net limit)) runs
    ran_script NoMemory runs = (inr (text, gave_all (short_none text good), inr good), runs)
    ran_script _ runs = absurd runs

    pub ran : (end : ReplayEnd) (script : ScriptLines) → script ≡ script_of text → Runs end script held held' → Replayed end left left' held held'
    ran end script is runs = ran_script end (rw is at runs)

-- ---- a script of no text

pub no_fault : (before after : ℕ) → IsFaultless before after → Rose before after → ⊥
no_fault before after f rose = omega (arith, f.same, rose f.room)

-- where the sink doesn't fail its run comes to its end, or stops
pub comes_through : (part : Part) (end : ReplayEnd) (script : ScriptLines) (held held' : Option (List ℕ)) (sinks sinks' : ℕ) → RunsTo part end script held held'
    → IsFaultless sinks sinks' → (end ≡ SinkFault → Rose sinks sinks') → HasRun end script
comes_through part Ended script held held' sinks sinks' runs sink rose = inl refl
comes_through part NoMemory script held held' sinks sinks' runs sink rose = inr tt
comes_through part (Limit (Net limit)) script held held' sinks sinks' runs sink rose = inr runs.0
comes_through part SinkFault script held held' sinks sinks' runs sink rose = absurd (no_fault sinks sinks' sink (rose refl))
comes_through part _ script held held' sinks sinks' runs sink rose = absurd runs

-- ---- what is refused is refused for its text alone

-- a source that tells its bytes gave a front of them, and to the end all of them
front_of : (left left' : Option (List ℕ)) (bytes text : List ℕ) → left ≡ Some bytes → Gave left left' text
    → (rest : List ℕ) × (left' ≡ Some rest) × (text ++ rest ≡ bytes)
front_of left left' bytes text is gave = some-mapped (λ rest. text ++ rest) left' bytes (sym gave ∙ is)

all_of : (left left' : Option (List ℕ)) (bytes text : List ℕ) → left ≡ Some bytes → GaveAll left left' text → bytes ≡ text
all_of left left' bytes text is all =
    let f = front_of left left' bytes text is all.gave in
    let none : f.0 ≡ [] = rw f.1 at all.ended in
    sym f.2 ∙ rw none (append-nil text)

no_refusal : (left left' : Option (List ℕ)) (bytes : List ℕ) (cause : ScriptRefusal) → left ≡ Some bytes → refusal bytes ≡ None → Refuses left left' cause → ⊥
no_refusal left left' bytes cause is good r =
    let both : None ≡ Some cause = sym good ∙ ap refusal (all_of left left' bytes r.0 is r.1) ∙ r.2 in
    cc

module _ (left left' held held' : Option (List ℕ)) (bytes : List ℕ) (sources sources' sinks sinks' : ℕ) (is : left ≡ Some bytes) (good : refusal bytes ≡ None)
    (source : IsFaultless sources sources') (sink : IsFaultless sinks sinks') where
  -- the text that it gave to its end is all of its bytes
  stops_of : (end : ReplayEnd) (text : List ℕ) → GaveAll left left' text → Stops end (script_of text) → Stops end (script_of bytes)
  stops_of end text gave stops = rw (all_of left left' bytes text is gave) stops

  pub goes_through : (end : ReplayEnd) → Replayed end left left' held held' → (end ≡ SourceFault → Rose sources sources')
      → (end ≡ SinkFault → Rose sinks sinks') → HasRun end (script_of bytes)
  goes_through Ended r a b = inl refl
  goes_through NoMemory r a b = inr tt
  goes_through (Limit (Net limit)) r a b = inr (stops_of (Limit (Net limit)) r.0 r.1 r.3.0)
  goes_through (Limit ScriptBytes) r a b = absurd (
      let more = r.0 in
      let f = front_of left left' bytes more.text is more.gave in
      omega (arith, short_none bytes good, more.long, ap length f.2, length-append more.text f.0))
  goes_through SourceFault r a b = absurd (no_fault sources sources' source (a refl))
  goes_through SinkFault r a b = absurd (no_fault sinks sinks' sink (b refl))
  goes_through _ r a b = absurd (no_refusal left left' bytes _ is good r.0)
