-- What a target does with a frame is a step of the law.
use Rattle.std.proofs.Common.{◌≡◌, cond, ℕ, Bool, true, false, List, Option, drop, refl, sym, ap, subst, ◌∙◌}
use Rattle.std.specs.Prelude.{is_some, IfSome, Some}
use Rattle.std.specs.Bool.{OnTrue}
use Rattle.std.specs.Option.{option_map}
use Rattle.aoe_disk.specs.State.{Contents, DiskState}
use Rattle.aoe_disk.specs.Calls.{IsRun}
use Rattle.aoe_keep.specs.Found.{Finds}
use Rattle.aoe_frame.specs.Header.{head, fields}
use Rattle.aoe_frame.specs.declared.header.Header.{Header}
use Rattle.aoe_base.specs.declared.refusal.AoeError.{AoeError}
use Rattle.aoe_ata.specs.declared.decision.AtaDecision.{AtaDecision}
use Rattle.aoe_lists.specs.Settings.{Settings}
use Rattle.aoe_target.specs.declared.station.Station.{Station}
use Rattle.aoe_target.specs.declared.heard.Effect.{Effect}
use Rattle.aoe_target.specs.declared.heard.Effect.TheVariants as effect
use Rattle.aoe_target.specs.declared.heard.Heard.{Heard}
use Rattle.aoe_target.specs.declared.verdict.ListCommand.{ListCommand}
use Rattle.aoe_target.specs.declared.verdict.Verdict.{Verdict}
use Rattle.aoe_target.specs.declared.verdict.Verdict.TheVariants.{Ignored, Silent, Refused, Lists, Ata}
use Rattle.aoe_target.specs.Verdict.{verdict, judged}
use Rattle.aoe_target.specs.Reply.{spelled, repeated}
use Rattle.aoe_target.specs.Sectors.{sectors_of}
use Rattle.aoe_target.specs.Device.{Device, State, Holds, MayStand}
use Rattle.aoe_lists.specs.Step.{Step}
use Rattle.aoe_lists.specs.Step as step
use Rattle.aoe_target.specs.Law.{Fate, cut, ignored, silent, replied, Edits, IsStep, Allows, AllowsAta, AllowsStep, step_of, after, after_ata, after_step}
use Rattle.aoe_target.specs.Lasting.{IsFirmAfter, LeavesFirm}
use Rattle.aoe_target.specs.Receive.{fate_of, KeepsStep, Leaves}
use Rattle.aoe_target.proofs.LawLemmas.{allows_less, both_ata, both_then}
use Rattle.aoe_target.proofs.DeviceLemmas.{stepped}

-- a store that is called once, or not at all, has as many sectors as before
pub same_sectors : {S : Type 0} (state : S → DiskState) (calls failed : Bool) (old new : S) → OnTrue calls (IsRun 1 failed (state old) (state new))
    → (calls ≡ false → new ≡ old)
    → (state new).sectors ≡ (state old).sectors
same_sectors state true failed old new run idle = run.sectors
same_sectors state false failed old new run idle = ap (λ s. (state s).sectors) (idle refl)

-- the verdict on a frame without a header, and on one with it
pub unheard : (station : Station) (lists : Settings) (f : List ℕ) → false ≡ is_some (head f) → verdict station lists f ≡ Ignored
unfolding verdict
unheard station lists f e = ap (λ (t : Bool). cond t (judged station lists (fields f) (drop 24 f)) Ignored) (sym e)

pub judged_is : (station : Station) {lists told : Settings} (f : List ℕ) {h : Header} {args : List ℕ} (v : Verdict) → true ≡ is_some (head f) → h ≡ fields f
    → args ≡ drop 24 f → told ≡ lists
    → v ≡ judged station told h args → verdict station lists f ≡ v
unfolding verdict
judged_is station {lists} f {h} {args} v there header rest same e =
    ap (λ (t : Bool). cond t (judged station lists (fields f) (drop 24 f)) Ignored) (sym there)
    ∙ sym (e ∙ ap (λ (l : Settings). judged station l h args) same ∙ ap (λ (x : Header). judged station lists x args) header
    ∙ ap (λ (a : List ℕ). judged station lists (fields f) a) rest)

module _ (station : Station) (d d' : Device) (k : State) (f : List ℕ) (h : Holds d k) where
  -- a step by its verdict
  step_by : (fate : Fate) (v : Verdict) → verdict station d.lists f ≡ v → Allows station k f v fate → Holds d' (after station f v fate k)
      → IsStep station k f fate d'
  step_by fate v e allowed holds =
      let is : verdict station k.lists f ≡ v = subst (λ (l : Settings). verdict station l f ≡ v) h.lists e in
      record {
        allowed = subst (λ (w : Verdict). Allows station k f w fate) (sym is) allowed;
        holds = subst (λ (w : Verdict). Holds d' (after station f w fate k)) (sym is) holds;
      }

  pub ignored_step : verdict station d.lists f ≡ Ignored → d ≡ d' → IsStep station k f ignored d'
  ignored_step e same = step_by ignored Ignored e refl (subst (λ (x : Device). Holds x k) same h)

  pub silent_step : verdict station d.lists f ≡ Silent → d ≡ d' → IsStep station k f silent d'
  silent_step e same = step_by silent Silent e refl (subst (λ (x : Device). Holds x k) same h)

  -- a reply that bears an error
  pub refused_step : (header : Header) (error : AoeError) (out : List ℕ) → verdict station d.lists f ≡ Refused error → header ≡ fields f
      → out ≡ spelled station header (Some error) (repeated f) → d ≡ d'
      → IsStep station k f (replied effect.None out) d'
  refused_step header error out e header_is out_is same =
      step_by (replied effect.None out) (Refused error) e
      (ap (replied effect.None) (out_is ∙ ap (λ (x : Header). spelled station x (Some error) (repeated f)) header_is))
      (subst (λ (x : Device). Holds x k) same h)

  -- the answer of the lists
  pub lists_step : (command : ListCommand) (r : Heard) (out : List ℕ) → verdict station d.lists f ≡ Lists command
      → AllowsStep station f (step_of station d.lists f command) (fate_of r out)
      → KeepsStep (step_of station d.lists f command) r d.lists d'.lists d.keep d'.keep → d'.store ≡ d.store → IsStep station k f (fate_of r out) d'
  lists_step command r out e allowed kept store =
      step_by (fate_of r out) (Lists command) e
      (subst (λ (l : Settings). AllowsStep station f (step_of station l f command) (fate_of r out)) h.lists allowed)
      (subst (λ (l : Settings). Holds d' (after_step (step_of station l f command) (fate_of r out) k)) h.lists
      (stepped d d' k h store (step_of station d.lists f command) r out kept))

  -- an ATA command
  pub ata_step : (header : Header) (a : AtaDecision) (e : Effect) (out : List ℕ) → verdict station d.lists f ≡ Ata a → header ≡ fields f
      → AllowsAta station (option_map sectors_of d.store.contents) header a.args a.answer (replied e out)
      → Leaves f a.answer e out d.store.contents d'.store.contents
      → d'.lists ≡ d.lists → d'.keep ≡ d.keep → IsStep station k f (replied e out) d'
  ata_step header a e out v header_is allowed leaves lists keep =
      let known = option_map sectors_of d.store.contents in
      let allows : AllowsAta station known (fields f) a.args a.answer (replied e out) =
      subst (λ (x : Header). AllowsAta station known x a.args a.answer (replied e out)) header_is allowed in
      step_by (replied e out) (Ata a) v
      (allows_less a.answer (replied e out) station known k.sectors (fields f) a.args h.sectors allows)
      (record {
        lists = lists ∙ h.lists;
        crash = subst (λ (x : DiskState). IfSome x.contents (Finds (MayStand k))) (sym keep) h.crash;
        sectors = both_then (option_map sectors_of d'.store.contents) (option_map (after_ata f a.answer (replied e out)) known)
            (option_map (after_ata f a.answer (replied e out)) k.sectors)
            leaves (both_ata (replied e out) f a.answer station (fields f) a.args known k.sectors allows h.sectors);
      })

-- a step of the lists writes no sector
pub step_firm : (station : Station) (f : List ℕ) (s : Step) (fate : Fate) (told : Option Contents) → AllowsStep station f s fate → IsFirmAfter fate told
step_firm station f step.Silent fate told e = subst (λ (x : Fate). IsFirmAfter x told) (sym e) tt
step_firm station f (step.Reply error args) fate told e = subst (λ (x : Fate). IsFirmAfter x told) (sym e) tt
step_firm station f (step.Change next args) ignored told allowed = tt
step_firm station f (step.Change next args) silent told allowed = tt
step_firm station f (step.Change next args) cut told allowed = tt
step_firm station f (step.Change next args) (replied e reply) told allowed = edited e allowed
  where
    edited : (e : Effect) → Edits station f args e reply → LeavesFirm e told
    edited effect.None edits = tt
    edited (effect.Wrote span) edits = absurd edits
    edited effect.Synced edits = tt
    edited effect.Edited edits = tt
    edited (effect.WriteFault span) edits = tt
    edited effect.ReadFault edits = tt
    edited effect.SyncFault edits = tt
    edited effect.EditFault edits = tt
