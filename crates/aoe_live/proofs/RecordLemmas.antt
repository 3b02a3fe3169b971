-- A line that is recorded and comes.
use Rattle.std.proofs.Common.{ℕ, ◌≡◌, ◌+◌, ◌<◌, true, List, [], ◌∷◌, ◌++◌, All, length, length-append, None, inl, sym, subst, ap, ◌∙◌, arith}
use Rattle.std.proofs.lemmas.List.Elements.{All-append, All-from_recursion}
use Rattle.aoe_history.specs.declared.entry.Entry.{Entry}
use Rattle.aoe_script.specs.declared.event.Event.{Event}
use Rattle.aoe_script.specs.declared.line.Line.TheVariants.{Asks}
use Rattle.aoe_script.specs.declared.setup.Setup.{Setup as Line}
use Rattle.aoe_script.specs.Lines.{with_line, ScriptLines}
use Rattle.aoe_sim_setup.specs.Layout.{setup_of}
use Rattle.aoe_world.specs.Replay.{IsSound}
use Rattle.aoe_world.specs.Schedule.{Comes, ComesSome}
use Rattle.aoe_world.specs.World.{IsRefusedAt, Stepped}
use Rattle.aoe_world.specs.declared.refusal.WorldRefusal.{WorldRefusal}
use Rattle.aoe_world.specs.declared.refusal.WorldRefusal.TheVariants.{NetFull, NoMemory}
use Rattle.aoe_live.specs.Lines.{is_recorded, LineComes, LinesCome}
use Rattle.aoe_live.specs.Recorder.{refusal_of, Fails, Follows, IsShort}
use Rattle.aoe_live.specs.Stations.{stations}
use Rattle.aoe_live.proofs.LineLemmas.{come-more, cursor-stays}

module _ (sectors : ℕ) (script : ScriptLines) (old : Stepped) (event : Event) (f : Follows sectors script old) where
  module _ (recorded : is_recorded event ≡ true) (new : Stepped)
      (comes : Comes (setup_of old.lines) old.lines event old.cursor old.entries new.cursor new.entries) where
    abbrev moved : Comes (setup_of (stations sectors)) (stations sectors) event 1 old.entries new.cursor new.entries
    moved =
        let P : List Line → Type 0 = λ l. Comes (setup_of l) l event old.cursor old.entries new.cursor new.entries in
        let Q : ℕ → Type 0 = λ k. Comes (setup_of (stations sectors)) (stations sectors) event k old.entries new.cursor new.entries in
        subst Q f.cursor (subst P f.lines comes)

    stays : new.cursor ≡ 1
    stays = cursor-stays (setup_of (stations sectors)) (stations sectors) event 1 new.cursor old.entries new.entries recorded moved

    pub line-comes : LineComes sectors event old.entries new.entries
    line-comes = let Q : ℕ → Type 0 = λ k. Comes (setup_of (stations sectors)) (stations sectors) event 1 old.entries k new.entries in subst Q stays moved

    pub follows-on : (later : ScriptLines) → later ≡ with_line script (Asks event) → new.lines ≡ old.lines → new.events ≡ old.events + 1 → new.refused ≡ None
        → length script.events < 50000 → IsShort event → IsSound (setup_of new.lines) new.entries → Follows sectors later new
    follows-on later is lines counted goes few short sound =
        let events : later.events ≡ script.events ++ event ∷ [] = ap (λ (s : ScriptLines). s.events) is in
        let P : List Event → Type 0 = λ es. LinesCome sectors es [] new.entries in
        let R : List Line → Type 0 = λ l. IsSound (setup_of l) new.entries in
        let S : List Event → Type 0 = λ es. All IsShort es in
        let one : length later.events ≡ length script.events + 1 = ap length events ∙ length-append script.events (event ∷ []) in
        record {
          some = f.some;
          most = f.most;
          setups = ap (λ (s : ScriptLines). s.setups) is ∙ f.setups;
          lines = lines ∙ f.lines;
          going = goes;
          count = omega (arith, counted, one, f.count);
          cursor = stays;
          few = omega (arith, one, few);
          short = subst S (sym events) (All-append IsShort script.events (event ∷ []) f.short (All-from_recursion IsShort (event ∷ []) (short, tt)));
          sound = subst R (lines ∙ f.lines) sound;
          come = subst P (sym events) (come-more sectors script.events event [] old.entries new.entries f.come line-comes);
        }

  begun : (k : List Entry) → ComesSome (setup_of old.lines) old.lines event old.cursor old.entries k
      → ComesSome (setup_of (stations sectors)) (stations sectors) event 1 old.entries k
  begun k begins =
      let P : List Line → Type 0 = λ l. ComesSome (setup_of l) l event old.cursor old.entries k in
      let Q : ℕ → Type 0 = λ c. ComesSome (setup_of (stations sectors)) (stations sectors) event c old.entries k in
      subst Q f.cursor (subst P f.lines begins)

  pub fails-at : length script.events < 50000 → (refusal : WorldRefusal) (k : List Entry) (lines : List Line) → lines ≡ old.lines → IsSound (setup_of lines) k
      → ComesSome (setup_of old.lines) old.lines event old.cursor old.entries k
      → IsRefusedAt (setup_of old.lines) (ComesSome (setup_of old.lines) old.lines event old.cursor old.entries) k refusal
      → Fails sectors (refusal_of refusal) script.events event old.entries k
  fails-at few NoMemory k lines same sound begins why = let T : List Line
      → Type 0 = λ l. IsSound (setup_of l) k in (few, inl (begun k begins), subst T (same ∙ f.lines) sound)
  fails-at few (NetFull limit frames bytes) k lines same sound begins why =
      let R : List Line → Type 0 = λ l. IsRefusedAt (setup_of l) (ComesSome (setup_of l) l event old.cursor old.entries) k (NetFull limit frames bytes) in
      let S : ℕ → Type 0 = λ c. IsRefusedAt (setup_of (stations sectors)) (ComesSome (setup_of (stations sectors)) (stations sectors) event c old.entries) k
      (NetFull limit frames bytes) in
      let T : List Line → Type 0 = λ l. IsSound (setup_of l) k in
      (begun k begins, subst S f.cursor (subst R f.lines why), subst T (same ∙ f.lines) sound)
