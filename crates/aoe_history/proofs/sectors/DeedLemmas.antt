-- What a frame that comes to a slot does to a sector of it.
use Rattle.std.proofs.Common.{if◌then◌else◌, ℕ, ◌≡◌, Bool, true, false, List, drop, Option, Some, None, refl, arith}
use Rattle.std.specs.Option.{option_and_then, option_or}
use Rattle.aoe_base.specs.declared.sectors.Span.{Span}
use Rattle.aoe_ata.specs.Decision.{written}
use Rattle.aoe_ata.specs.declared.args.AtaArgs.{AtaArgs}
use Rattle.aoe_ata.specs.declared.decision.AtaAnswer.{AtaAnswer}
use Rattle.aoe_ata.specs.declared.decision.AtaAnswer.TheVariants as ata
use Rattle.aoe_ata.specs.declared.decision.AtaDecision.{AtaDecision}
use Rattle.aoe_frame.specs.declared.header.Header.{Header}
use Rattle.aoe_frame.specs.Header.{fields}
use Rattle.aoe_lists.specs.Step.{Step}
use Rattle.aoe_target.specs.declared.heard.Effect.TheVariants as effect
use Rattle.aoe_target.specs.declared.station.Station.{Station}
use Rattle.aoe_target.specs.declared.verdict.ListCommand.{ListCommand}
use Rattle.aoe_target.specs.declared.verdict.Verdict.{Verdict}
use Rattle.aoe_target.specs.declared.verdict.Verdict.TheVariants.{Ata, Lists}
use Rattle.aoe_target.specs.Device.{State}
use Rattle.aoe_target.specs.Law.{after, after_ata, after_step, step_of, Allows, AllowsAta, AllowsStep}
use Rattle.aoe_target.specs.Reply.{data_of}
use Rattle.aoe_target.specs.Sectors.{in_span, puts, spoils, value_in, Sectors}
use Rattle.aoe_history.specs.declared.entry.Fate.{Fate}
use Rattle.aoe_history.specs.declared.entry.Fate.TheVariants.{Cut, Replied}
use Rattle.aoe_history.specs.Slots.{breaks, fate_at, marked_in, stores}

abbrev pub known_in : Option Sectors → ℕ → Option (List ℕ)
known_in o s = option_and_then (λ (k : Sectors). k.known s) o

-- the device was told to write to a span with the sector
pub record IsPut (v : Verdict) (s : ℕ) (span : Span) : Type 0 where
  pub decision : AtaDecision
  pub verdict_is : v ≡ Ata decision
  pub answer_is : decision.answer ≡ ata.Put span
  pub inside : in_span span s ≡ true

-- the value of a sector and its mark, before and after, and what the arrival did to it
pub data Act (v : Verdict) (f : List ℕ) (fate : Fate) (s : ℕ) (k k2 : Option (List ℕ)) (m m2 : Bool) : Type 0 where
  showed : (shown : Option (List ℕ)) → k2 ≡ option_or k shown → m2 ≡ m → stores fate s ≡ false → breaks v fate s ≡ false → Act v f fate s k k2 m m2
  put : (span : Span) → IsPut v s span → k2 ≡ Some (value_in span (written (drop 24 f) span) s) → m2 ≡ true → stores fate s ≡ true → breaks v fate s ≡ false
      → Act v f fate s k k2 m m2
  spoilt : (span : Span) → IsPut v s span → m2 ≡ true → stores fate s ≡ false → breaks v fate s ≡ true → Act v f fate s k k2 m m2
  synced : k2 ≡ k → m2 ≡ false → stores fate s ≡ false → breaks v fate s ≡ false → Act v f fate s k k2 m m2

same : (o : Option (List ℕ)) → o ≡ option_or o None
same o = grind arith

module _ (station : Station) (k : Option Sectors) (h : Header) (args : AtaArgs) (f : List ℕ) (s : ℕ) (x : Sectors) where
  abbrev Does : AtaAnswer → Fate → Sectors → Type 0
  Does answer fate y = Act (Ata (record { args = args; answer = answer })) f fate s (x.known s) (y.known s) (x.marks s) (y.marks s)

  stored : (b : Bool) (span : Span) (n : ℕ) (r : List ℕ) → in_span span s ≡ b
      → Does (ata.Put span) (Replied (effect.Wrote span) n r) (puts span (written (drop 24 f) span) x)
  stored true span n r e = put span (record { decision = _; verdict_is = refl; answer_is = refl; inside = e }) (rw e refl) (rw e refl) e refl
  stored false span n r e = showed None (rw e (same (x.known s))) (rw e refl) e refl

  failed : (b : Bool) (span : Span) (fate : Fate) → in_span span s ≡ b → stores fate s ≡ false
      → breaks (Ata (record { args = args; answer = ata.Put span })) fate s ≡ b → Does (ata.Put span) fate (spoils span x)
  failed true span fate e st br = spoilt span (record { decision = _; verdict_is = refl; answer_is = refl; inside = e }) (rw e refl) st br
  failed false span fate e st br = showed None (rw e (same (x.known s))) (rw e refl) st br

  deed : (answer : AtaAnswer) (fate : Fate) → AllowsAta station k h args answer (fate_at fate) → Does answer fate (after_ata f answer (fate_at fate) x)
  deed (ata.Give span) (Replied effect.None n r) p = showed (if in_span span s then Some (value_in span (data_of span r) s) else None) refl refl refl refl
  deed (ata.Put span) (Replied (effect.Wrote z) n r) p = rw p.0 (stored (in_span span s) span n r refl)
  deed (ata.Put span) (Replied (effect.WriteFault z) n r) p = rw p.0 (failed (in_span span s) span (Replied (effect.WriteFault span) n r) refl refl refl)
  deed (ata.Put span) Cut p = failed (in_span span s) span Cut refl refl refl
  deed ata.Sync (Replied effect.Synced n r) p = synced refl refl refl refl
  deed _ (Replied (effect.Wrote z) n r) p = absurd (first_of (cc, search))
  deed _ (Replied (effect.WriteFault z) n r) p = absurd (first_of (cc, search))
  deed _ (Replied effect.Synced n r) p = absurd (first_of (cc, search))
  deed _ _ p = showed None (same (x.known s)) refl refl refl

pub step-sectors : (x : Step) (fate : Fate) (k : State) → (after_step x (fate_at fate) k).sectors ≡ k.sectors
step-sectors x fate k = grind arith

step-still : (station : Station) (f : List ℕ) (x : Step) (c : ListCommand) (fate : Fate) (s : ℕ) → AllowsStep station f x (fate_at fate)
    → (stores fate s ≡ false) × (breaks (Lists c) fate s ≡ false)
step-still station f x c fate s a = grind arith

pub acts : (station : Station) (k : State) (f : List ℕ) (v : Verdict) (fate : Fate) (s : ℕ) (x : Sectors) → k.sectors ≡ Some x
    → Allows station k f v (fate_at fate)
    → Act v f fate s (known_in k.sectors s) (known_in (after station f v (fate_at fate) k).sectors s) (marked_in k.sectors s)
    (marked_in (after station f v (fate_at fate) k).sectors s)
acts station k f (Ata d) fate s x e a = rw e (deed station k.sectors (fields f) d.args f s x d.answer fate a)
acts station k f (Lists c) fate s x e a =
    let q = step-still station f (step_of station k.lists f c) c fate s a in
    rw (step-sectors (step_of station k.lists f c) fate k) (showed None (same (known_in k.sectors s)) refl q.0 q.1)
acts station k f _ (Replied (effect.Wrote span) n r) s x e a = absurd (cc)
acts station k f _ (Replied (effect.WriteFault span) n r) s x e a = absurd (cc)
acts station k f _ fate s x e a = showed None (same (known_in k.sectors s)) refl refl refl
