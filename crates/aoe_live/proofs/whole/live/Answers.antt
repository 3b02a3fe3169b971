use Rattle.std.proofs.Common.{◌≡◌, ◌≤◌, ◌∙◌, ℕ, List, None, Ok, ap, length, subst, sym}
use Rattle.aoe_script.specs.declared.event.Event.{Event}
use Rattle.aoe_script.specs.Lines.{refusal, script_of, ScriptLines}
use Rattle.aoe_script.specs.Print.{script_text}
use Rattle.aoe_live.specs.Rounds.{wire}
use Rattle.aoe_live.specs.Stations.{stations}
use Rattle.aoe_live.specs.Whole.{outside, Lives, Outside}
use Rattle.aoe_live.proofs.whole.live.Goals as goal

-- the text of a script that begins with the stations
module _ (sectors count turns : ℕ) (text : List ℕ) (old new : Outside) where
  record Recorded : Type 0 where
    events : List Event
    text_is : text ≡ script_text (record { setups = stations sectors; events = events })
    reads : script_of text ≡ record { setups = stations sectors; events = events }
    accepted : refusal text ≡ None
    lives : Lives sectors count turns (Ok events) old new

  recorded : (script : ScriptLines) (size commands : ℕ) → size ≡ sectors → commands ≡ count → script.setups ≡ stations size
      → text ≡ script_text script → script_of text ≡ script → refusal text ≡ None → Lives size commands turns (Ok script.events) old new → Recorded
  recorded script size commands same_size same_count setups text_is reads accepted lives =
      let whole : ScriptLines = record { setups = stations sectors; events = script.events } in
      let same : script ≡ whole =
      ap (λ (lines : List _). let s : ScriptLines = record { setups = lines; events = script.events } in s) (setups ∙ ap stations same_size) in
      record {
        events = script.events;
        text_is = text_is ∙ ap script_text same;
        reads = reads ∙ same;
        accepted = accepted;
        lives = subst (λ (n : ℕ). Lives n count turns (Ok script.events) old new) same_size
            (subst (λ (n : ℕ). Lives size n turns (Ok script.events) old new) same_count lives);
      }

pub returns-in-Ok-print_script-clause-script : goal.returns-in-Ok-print_script-clause-script
returns-in-Ok-print_script-clause-script g c =
    let one = wire (g.L.Link.turns c.args.one.now) (g.L.Link.given c.args.one.now) (g.L.Link.taken c.args.one.now) in
    let two = wire (g.L.Link.turns c.args.two.now) (g.L.Link.given c.args.two.now) (g.L.Link.taken c.args.two.now) in
    let one_after = wire (g.L.Link.turns c.run.new.one) (g.L.Link.given c.run.new.one) (g.L.Link.taken c.run.new.one) in
    let two_after = wire (g.L.Link.turns c.run.new.two) (g.L.Link.given c.run.new.two) (g.L.Link.taken c.run.new.two) in
    let r = recorded c.args.sectors c.args.n c.args.turns c.in-Ok-print_script.text (outside one two (g.C.Clock.answers c.args.clock.now))
    (outside one_after two_after (g.C.Clock.answers c.run.new.clock)) c.run.new.self.script c.in-Ok-recorder.recorder.sectors c.in-Ok-recorder.recorder.commands
    c.in-Ok-recorder.ensures.of.0 c.in-Ok-recorder.ensures.of.1 c.in-Ok-run.ensures.setups c.in-Ok-print_script.ensures.text c.in-Ok-print_script.ensures.reads
    (c.in-Ok-print_script.ensures.accepted (subst (λ (t : List ℕ). length t ≤ 16777216) (sym c.in-Ok-print_script.ensures.text) c.in-Ok-run.ensures.short))
    c.in-Ok-run.ensures.lives in
    (r.events, r.text_is, r.reads, r.accepted, r.lives)
