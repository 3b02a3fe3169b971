use Rattle.std.proofs.Common.{◌≡◌, ◌∙◌, ℕ, List, Option, Result, Ok, Err, refl, sym, ap, subst, arith}
use Rattle.std.specs.Prelude.{◌↔◌, IfOk}
use Rattle.aoe_io.specs.Bytes.{Took, TookSome}
use Rattle.aoe_live.specs.Whole.{Lives, Outside}
use Rattle.aoe_live.specs.declared.refusal.LiveRefusal.{LiveRefusal}
use Rattle.aoe_live.specs.declared.refusal.LiveRefusal.TheVariants as refusal
use Rattle.aoe_script.specs.Lines.{refusal as text_refusal, script_of}
use Rattle.aoe_script.specs.declared.event.Event.{Event}
use Rattle.aoe_args.specs.declared.command.Live.{Live}
use Rattle.aoe.specs.Live.{live_status, ReadsBack, RunsLive, WritesScript}
use Rattle.aoe.specs.declared.status.Status.{Status}
use Rattle.aoe.specs.declared.status.Status.TheVariants as status
use Rattle.aoe.proofs.Blame.{blamed}
use Rattle.aoe.proofs.live.run_live.Goals as goal

-- a run over as many sectors as were asked for
ran : (asked : Live) (n : ℕ) (r : Result (List Event) LiveRefusal) (s : Status) (held held' : Option (List ℕ)) (old new : Outside) → n ≡ asked.sectors
    → IfOk r (ReadsBack n) → Lives n asked.count asked.turns r old new → WritesScript n s r held held' → RunsLive asked s held held' old new
ran asked n r s held held' old new e reads lives writes = record {
  result = r;
  reads = subst (λ (k : ℕ). IfOk r (ReadsBack k)) e reads;
  lives = subst (λ (k : ℕ). Lives k asked.count asked.turns r old new) e lives;
  writes = subst (λ (k : ℕ). WritesScript k s r held held') e writes;
}

-- a refusal is the status, and nothing is written
unwritten : (sectors : ℕ) (r : LiveRefusal) (held : Option (List ℕ)) → WritesScript sectors (live_status r) (Err r) held held
unwritten sectors refusal.NoMemory held = (refl, refl)
unwritten sectors (refusal.LinkFault link) held = (refl, refl)
unwritten sectors (refusal.Unanswered turns) held = (refl, refl)
unwritten sectors (refusal.Full limit frames bytes) held = (refl, refl)
unwritten sectors refusal.TooMany held = (refl, refl)

-- the status tells of a link what the refusal told
told : {T : Type 0} (s : Status) (r : LiveRefusal) (link : ℕ) → s ≡ live_status r
    → (s ≡ status.LinkFault link) ↔ ((let o : Result T LiveRefusal = Err r in o) ≡ Err (refusal.LinkFault link))
told s r link is = (λ e. grind (arith, is, e), λ e. grind (arith, is, e))

pub returns-in-Err-clause-run : goal.returns-in-Err-clause-run
returns-in-Err-clause-run g c =
    let n = c.from-sectors.result in
    let r = Err c.in-Err.refusal in
    let held = g.K.Sink.held c.args.sink.now in
    let writes = subst (λ (s : Status). WritesScript n s r held held) (sym c.live_status.ensures) (unwritten n c.in-Err.refusal held) in
    ran _ n r _ _ _ _ _ c.from-sectors.ensures tt c.in-Err.ensures.refused writes

pub returns-in-Ok-give_all-clause-run : goal.returns-in-Ok-give_all-clause-run
returns-in-Ok-give_all-clause-run g c =
    let s = c.in-Ok.ensures.script in
    let took = subst (λ (text : List ℕ). Took (g.K.Sink.held c.args.sink.now) (g.K.Sink.held c.give_all.new.sink) text)
    (c.bytes.ensures ∙ s.1) c.in-Ok-give_all.ensures.all in
    ran _ _ (Ok s.0) _ _ _ _ _ c.from-sectors.ensures (record { accepted = sym (ap text_refusal s.1) ∙ s.3; spells = sym (ap script_of s.1) ∙ s.2 }) s.4 took

pub returns-clause-run : goal.returns-clause-run
returns-clause-run g c =
    let s = c.in-Ok.ensures.script in
    let took = subst (λ (text : List ℕ). TookSome (g.K.Sink.held c.args.sink.now) (g.K.Sink.held c.give_all.new.sink) text)
    (c.bytes.ensures ∙ s.1) c.in-Err-give_all.ensures.some in
    ran _ _ (Ok s.0) _ _ _ _ _ c.from-sectors.ensures (record { accepted = sym (ap text_refusal s.1) ∙ s.3; spells = sym (ap script_of s.1) ∙ s.2 }) s.4 took

pub returns-in-Err-clause-links : goal.returns-in-Err-clause-links
returns-in-Err-clause-links g c =
    let e = c.in-Err.ensures in
    let is = c.live_status.ensures in
    record {
      first = blamed _ _ (told _ c.in-Err.refusal 0 is) _ _ e.cause_one e.no_fault_one e.one_fault_one;
      second = blamed _ _ (told _ c.in-Err.refusal 1 is) _ _ e.cause_two e.no_fault_two e.one_fault_two;
    }
