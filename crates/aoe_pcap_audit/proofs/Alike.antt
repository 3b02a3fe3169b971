-- Two states of a device with the same lists, of whose sectors the same is known: the law allows the same of both.
use Rattle.std.proofs.Common.{◌≡◌, ◌+◌, ℕ, List, [], ◌∷◌, drop, Option, Some, None, refl, ap, subst}
use Rattle.std.specs.Prelude.{IfSome, ◌==◌, if◌then◌else◌}
use Rattle.std.specs.Option.{option_map, option_or}
use Rattle.aoe_base.specs.declared.sectors.Span.{Span}
use Rattle.aoe_ata.specs.declared.args.AtaArgs.{AtaArgs}
use Rattle.aoe_ata.specs.declared.decision.AtaAnswer.{AtaAnswer}
use Rattle.aoe_ata.specs.declared.decision.AtaAnswer.TheVariants.{Abort, NotFound, Page, Mode, Give, Put, Verify, Sync}
use Rattle.aoe_frame.specs.Header.{fields}
use Rattle.aoe_frame.specs.declared.header.Header.{Header}
use Rattle.aoe_lists.specs.Settings.{Settings}
use Rattle.aoe_lists.specs.Step.{Step}
use Rattle.aoe_lists.specs.Step as step
use Rattle.aoe_target.specs.Device.{State}
use Rattle.aoe_target.specs.History.{AllAllowed, Met, left_by}
use Rattle.aoe_target.specs.Law.{Allows, AllowsAta, AllowsStep, Fate, Gives, after, after_ata, after_change, after_cut, after_edit, after_effect, after_step, cut, ignored, replied, silent, step_of}
use Rattle.aoe_target.specs.Sectors.{Sectors, Tells, in_span, learns, left_by_fault, puts, settles, spoils, value_in}
use Rattle.aoe_target.specs.Reply.{data_of}
use Rattle.aoe_target.specs.Verdict.{verdict}
use Rattle.aoe_ata.specs.Decision.{written}
use Rattle.aoe_disk.specs.State.{sector}
use Rattle.aoe_target.specs.declared.heard.Effect.{Effect}
use Rattle.aoe_target.specs.declared.heard.Effect.TheVariants as effect
use Rattle.aoe_target.specs.declared.station.Station.{Station}
use Rattle.aoe_target.specs.declared.verdict.Verdict.{Verdict}
use Rattle.aoe_target.specs.declared.verdict.Verdict.TheVariants.{Ignored, Silent, Refused, Lists, Ata}

pub record SameKnown (a b : Sectors) : Type 0 where
  pub known : a.known ≡ b.known
  pub exact : a.exact ≡ b.exact

abbrev pub BothKnown : Option Sectors → Option Sectors → Type 0
BothKnown None None = Unit {0}
BothKnown None (Some b) = ⊥
BothKnown (Some a) None = ⊥
BothKnown (Some a) (Some b) = SameKnown a b

pub record Alike (x y : State) : Type 0 where
  pub lists : x.lists ≡ y.lists
  pub sectors : BothKnown x.sectors y.sectors

-- what the law allows

tells-alike : (j k : Option Sectors) (span : Span) (bytes : List ℕ) → BothKnown j k → IfSome j (Tells span bytes) → IfSome k (Tells span bytes)
tells-alike None None span bytes both tells = tt
tells-alike None (Some b) span bytes both tells = absurd both
tells-alike (Some a) None span bytes both tells = absurd both
tells-alike (Some a) (Some b) span bytes both tells = λ i below. subst (λ (o : Option (List ℕ)). IfSome o (λ v. sector bytes i ≡ v))
    (ap (λ (f : ℕ → Option (List ℕ)). f (span.at + i)) both.known) (tells i below)

gives-alike : (e : Effect) (station : Station) (j k : Option Sectors) (h : Header) (args : AtaArgs) (span : Span) (reply : List ℕ) → BothKnown j k
    → Gives station j h args span e reply → Gives station k h args span e reply
gives-alike effect.None station j k h args span reply both g = (g.0, g.1, tells-alike j k span (data_of span reply) both g.2)
gives-alike (effect.Wrote s) station j k h args span reply both g = absurd g
gives-alike effect.Synced station j k h args span reply both g = absurd g
gives-alike effect.Edited station j k h args span reply both g = absurd g
gives-alike (effect.WriteFault s) station j k h args span reply both g = absurd g
gives-alike effect.ReadFault station j k h args span reply both g = g
gives-alike effect.SyncFault station j k h args span reply both g = absurd g
gives-alike effect.EditFault station j k h args span reply both g = absurd g

read-alike : (fate : Fate) (station : Station) (j k : Option Sectors) (h : Header) (args : AtaArgs) (span : Span) → BothKnown j k
    → AllowsAta station j h args (Give span) fate → AllowsAta station k h args (Give span) fate
read-alike ignored station j k h args span both g = absurd g
read-alike silent station j k h args span both g = absurd g
read-alike cut station j k h args span both g = tt
read-alike (replied e reply) station j k h args span both g = gives-alike e station j k h args span reply both g

ata-alike : (a : AtaAnswer) (fate : Fate) (station : Station) (j k : Option Sectors) (h : Header) (args : AtaArgs) → BothKnown j k
    → AllowsAta station j h args a fate → AllowsAta station k h args a fate
ata-alike Abort fate station j k h args both g = g
ata-alike NotFound fate station j k h args both g = g
ata-alike Page fate station j k h args both g = g
ata-alike Mode fate station j k h args both g = g
ata-alike (Give span) fate station j k h args both g = read-alike fate station j k h args span both g
ata-alike (Put span) fate station j k h args both g = g
ata-alike (Verify span) fate station j k h args both g = g
ata-alike Sync fate station j k h args both g = g

pub allows-alike : (v : Verdict) (station : Station) (x y : State) (f : List ℕ) (fate : Fate) → Alike x y → Allows station x f v fate
    → Allows station y f v fate
allows-alike Ignored station x y f fate alike g = g
allows-alike Silent station x y f fate alike g = g
allows-alike (Refused error) station x y f fate alike g = g
allows-alike (Lists command) station x y f fate alike g = subst (λ (l : Settings). AllowsStep station f (step_of station l f command) fate) alike.lists g
allows-alike (Ata d) station x y f fate alike g = ata-alike d.answer fate station x.sectors y.sectors (fields f) d.args alike.sectors g

-- what is left

module _ (a b : Sectors) (same : SameKnown a b) where
  put-alike : (span : Span) (bytes : List ℕ) → SameKnown (puts span bytes a) (puts span bytes b)
  put-alike span bytes = record {
    known = ap (λ (k : ℕ → Option (List ℕ)). λ s. if in_span span s then Some (value_in span bytes s) else k s) same.known;
    exact = same.exact;
  }

  spoil-alike : (span : Span) → SameKnown (spoils span a) (spoils span b)
  spoil-alike span = record {
    known = λ i. λ s. if in_span span s then left_by_fault (same.exact i) (s == span.at) (same.known i s) else same.known i s;
    exact = same.exact;
  }

  learn-alike : (span : Span) (bytes : List ℕ) → SameKnown (learns span bytes a) (learns span bytes b)
  learn-alike span bytes = record {
    known = ap (λ (k : ℕ → Option (List ℕ)). λ s. option_or (k s) (if in_span span s then Some (value_in span bytes s) else None)) same.known;
    exact = same.exact;
  }

  settle-alike : SameKnown (settles a) (settles b)
  settle-alike = record { known = same.known; exact = same.exact }

  effect-alike : (f : List ℕ) (answer : AtaAnswer) (e : Effect) (reply : List ℕ) → SameKnown (after_effect f answer e reply a) (after_effect f answer e reply b)
  effect-alike f Abort effect.None reply = same
  effect-alike f NotFound effect.None reply = same
  effect-alike f Page effect.None reply = same
  effect-alike f Mode effect.None reply = same
  effect-alike f (Give span) effect.None reply = learn-alike span (data_of span reply)
  effect-alike f (Put span) effect.None reply = same
  effect-alike f (Verify span) effect.None reply = same
  effect-alike f Sync effect.None reply = same
  effect-alike f answer (effect.Wrote span) reply = put-alike span (written (drop 24 f) span)
  effect-alike f answer effect.Synced reply = settle-alike
  effect-alike f answer effect.Edited reply = same
  effect-alike f answer (effect.WriteFault span) reply = spoil-alike span
  effect-alike f answer effect.ReadFault reply = same
  effect-alike f answer effect.SyncFault reply = same
  effect-alike f answer effect.EditFault reply = same

  cut-alike : (answer : AtaAnswer) → SameKnown (after_cut answer a) (after_cut answer b)
  cut-alike Abort = same
  cut-alike NotFound = same
  cut-alike Page = same
  cut-alike Mode = same
  cut-alike (Give span) = same
  cut-alike (Put span) = spoil-alike span
  cut-alike (Verify span) = same
  cut-alike Sync = same

  after-ata-alike : (f : List ℕ) (answer : AtaAnswer) (fate : Fate) → SameKnown (after_ata f answer fate a) (after_ata f answer fate b)
  after-ata-alike f answer ignored = same
  after-ata-alike f answer silent = same
  after-ata-alike f answer cut = cut-alike answer
  after-ata-alike f answer (replied e reply) = effect-alike f answer e reply

left-alike : (j k : Option Sectors) (f : List ℕ) (answer : AtaAnswer) (fate : Fate) → BothKnown j k
    → BothKnown (option_map (after_ata f answer fate) j) (option_map (after_ata f answer fate) k)
left-alike None None f answer fate both = tt
left-alike None (Some b) f answer fate both = absurd both
left-alike (Some a) None f answer fate both = absurd both
left-alike (Some a) (Some b) f answer fate both = after-ata-alike a b both f answer fate

module _ (x y : State) (alike : Alike x y) where
  edit-alike : (next : Settings) (e : Effect) → Alike (after_edit next e x) (after_edit next e y)
  edit-alike next effect.None = alike
  edit-alike next (effect.Wrote span) = alike
  edit-alike next effect.Synced = alike
  edit-alike next effect.Edited = record { lists = refl; sectors = alike.sectors }
  edit-alike next (effect.WriteFault span) = alike
  edit-alike next effect.ReadFault = alike
  edit-alike next effect.SyncFault = alike
  edit-alike next effect.EditFault = record { lists = alike.lists; sectors = alike.sectors }

  change-alike : (next : Settings) (fate : Fate) → Alike (after_change next fate x) (after_change next fate y)
  change-alike next ignored = alike
  change-alike next silent = alike
  change-alike next cut = record { lists = alike.lists; sectors = alike.sectors }
  change-alike next (replied e reply) = edit-alike next e

  step-alike : (s : Step) (fate : Fate) → Alike (after_step s fate x) (after_step s fate y)
  step-alike step.Silent fate = alike
  step-alike (step.Reply error args) fate = alike
  step-alike (step.Change next args) fate = change-alike next fate

  after-alike : (v : Verdict) (station : Station) (f : List ℕ) (fate : Fate) → Alike (after station f v fate x) (after station f v fate y)
  after-alike Ignored station f fate = alike
  after-alike Silent station f fate = alike
  after-alike (Refused error) station f fate = alike
  after-alike (Lists command) station f fate =
      subst (λ (l : Settings). Alike (after_step (step_of station x.lists f command) fate x) (after_step (step_of station l f command) fate y)) alike.lists
      (step-alike (step_of station x.lists f command) fate)
  after-alike (Ata d) station f fate = record { lists = alike.lists; sectors = left-alike x.sectors y.sectors f d.answer fate alike.sectors }

module _ (station : Station) (x y : State) (alike : Alike x y) where
  same-verdict : (j k : State) (f : List ℕ) → Alike j k → verdict station j.lists f ≡ verdict station k.lists f
  same-verdict j k f both = ap (λ (l : Settings). verdict station l f) both.lists

  -- behind the same history
  pub behind-alike : (h : List Met) → Alike (left_by station x h) (left_by station y h)
  behind-alike [] = alike
  behind-alike (m ∷ h) =
      let before = behind-alike h in
      let j : State = left_by station x h in
      let k : State = left_by station y h in
      subst (λ (v : Verdict). Alike (after station m.frame (verdict station j.lists m.frame) m.fate j) (after station m.frame v m.fate k))
      (same-verdict j k m.frame before)
      (after-alike j k before (verdict station j.lists m.frame) station m.frame m.fate)

  pub all-alike : (h : List Met) → AllAllowed station x h → AllAllowed station y h
  all-alike [] all = tt
  all-alike (m ∷ h) all =
      let before = behind-alike h in
      let j : State = left_by station x h in
      let k : State = left_by station y h in (
        subst (λ (v : Verdict). Allows station k m.frame v m.fate) (same-verdict j k m.frame before)
            (allows-alike (verdict station j.lists m.frame) station j k m.frame m.fate before all.0),
        all-alike h all.1,
      )
