-- What is known of sectors of which not all is known, and what a frame leaves of it.
use Rattle.std.proofs.Common.{◌≡◌, ◌<◌, ◌≤◌, ◌+◌, ◌-◌, ℕ, Bool, true, false, List, Option, Some, None, refl, sym, ◌∙◌, arith}
use Rattle.std.specs.Prelude.{IfSome}
use Rattle.std.specs.Option.{option_map}
use Rattle.std.proofs.lemmas.Bool.Decides.{nat_tests}
use Rattle.aoe_base.specs.declared.sectors.Span.{Span}
use Rattle.aoe_disk.specs.State.{BothTell}
use Rattle.aoe_frame.specs.declared.header.Header.{Header}
use Rattle.aoe_ata.specs.declared.args.AtaArgs.{AtaArgs}
use Rattle.aoe_ata.specs.declared.decision.AtaAnswer.{AtaAnswer}
use Rattle.aoe_ata.specs.declared.decision.AtaAnswer.TheVariants.{Give, Put}
use Rattle.aoe_target.specs.declared.heard.Effect.TheVariants as effect
use Rattle.aoe_target.specs.declared.station.Station.{Station}
use Rattle.aoe_target.specs.Law.{after_ata, cut, replied, AllowsAta, Fate}
use Rattle.aoe_target.specs.Reply.{data_of}
use Rattle.aoe_target.specs.Sectors.{in_span, spoils, value_in, Agrees, Sectors, Tells}
use Rattle.aoe_target.proofs.SectorLemmas.{known_same}
use Rattle.aoe_sim_shelves.specs.Shelf.{AgreesWithin, SameWithin}
use Rattle.aoe_sim_shelves.proofs.WithinLemmas.{ata_exact, ata_within, same_then}

-- VALUES

pub pass : (p q : Option (List ℕ)) (Q : List ℕ → Type 0) → IfSome q (λ v. p ≡ Some v) → IfSome p Q → IfSome q Q
pass p q Q k t = grind arith

-- who says the same agrees
pub same_agrees : (n : ℕ) (a b : Sectors) → SameWithin n a b → AgreesWithin n a b
same_agrees n a b same = record {
  known = λ s l. known_same (a.known s) (b.known s) (same.known s l);
  marks = λ s l e. same.marks s l ∙ e;
  same = λ e. same;
  exact = same.exact;
}

-- WHAT A FRAME LEAVES

record Knows (n : ℕ) (a b : Sectors) : Type 0 where
  pub known : (s : ℕ) → s < n → IfSome (b.known s) (λ v. a.known s ≡ Some v)
  pub marks : (s : ℕ) → s < n → b.marks s ≡ false → a.marks s ≡ false

-- data of a span that tells each known sector
told_value : (span : Span) (bytes : List ℕ) (a : Sectors) → Tells span bytes a
    → (s : ℕ) → in_span span s ≡ true → IfSome (a.known s) (λ u. value_in span bytes s ≡ u)
told_value span bytes a told s e =
    let inside : (span.at ≤ s) × (s < span.at + span.count) = grind (arith, nat_tests) in
    let place : span.at + (s - span.at) ≡ s = omega arith in
    rw place at (told (s - span.at) (omega arith))

module _ (n : ℕ) (a b : Sectors) (ab : AgreesWithin n a b) where
  spoils_known : (span : Span) → Knows n (spoils span a) (spoils span b)
  spoils_known span = record {
    known = λ s l. let same : b.exact ≡ true → a.known s ≡ b.known s = λ e. (ab.same e).known s l in grind (arith, ab.known s l, ab.exact);
    marks = λ s l. grind (arith, ab.marks s l);
  }

  module _ (station : Station) (h : Header) (args : AtaArgs) (f : List ℕ) where
    ata_known : (fate : Fate) (answer : AtaAnswer) → AllowsAta station (Some a) h args answer fate
        → Knows n (after_ata f answer fate a) (after_ata f answer fate b)
    ata_known cut (Put span) p = spoils_known span
    ata_known (replied effect.None reply) (Give span) p =
        record { known = λ s l. grind (arith, ab.known s l, told_value span (data_of span reply) a p.2 s); marks = ab.marks }
    ata_known (replied (effect.Wrote span) reply) answer p = record { known = λ s l. grind (arith, ab.known s l); marks = λ s l. grind (arith, ab.marks s l) }
    ata_known (replied (effect.WriteFault span) reply) answer p = spoils_known span
    ata_known (replied effect.Synced reply) answer p = record { known = ab.known; marks = λ s l e. refl }
    ata_known _ _ p = record { known = ab.known; marks = ab.marks }

    ata_agrees : (fate : Fate) (answer : AtaAnswer) → AllowsAta station (Some a) h args answer fate
        → AgreesWithin n (after_ata f answer fate a) (after_ata f answer fate b)
    ata_agrees fate answer p =
        let k = ata_known fate answer p in
        record {
          known = k.known;
          marks = k.marks;
          same = λ e. ata_within n a b (ab.same (sym (ata_exact fate f answer b) ∙ e)) fate f answer;
          exact = ata_exact fate f answer a ∙ ab.exact ∙ sym (ata_exact fate f answer b);
        }

-- A DEVICE THAT AGREES WITH WHAT AGREES

agrees_then : (n : ℕ) (x y z : Sectors) → x.exact ≡ y.exact → Agrees x y → AgreesWithin n y z → AgreesWithin n x z
agrees_then n x y z e xy yz = record {
  known = λ s l. pass (y.known s) (z.known s) (λ v. x.known s ≡ Some v) (yz.known s l) (xy.known s);
  marks = λ s l m. xy.marks s (yz.marks s l m);
  same = λ b. same_then n x y z (xy.exact (yz.exact ∙ b)) (yz.same b);
  exact = e ∙ yz.exact;
}

-- whether failed calls are told exactly
abbrev pub told_exact : Option Sectors → Bool
told_exact None = false
told_exact (Some a) = a.exact

pub both_then : (n : ℕ) (x y z : Option Sectors) → told_exact x ≡ told_exact y → BothTell Agrees x y
    → BothTell (AgreesWithin n) y z → BothTell (AgreesWithin n) x z
both_then n x y z e p q = grind (arith, agrees_then)

pub both_ata : (n : ℕ) (station : Station) (h : Header) (args : AtaArgs) (f : List ℕ) (fate : Fate) (answer : AtaAnswer) (x y z : Option Sectors)
    → told_exact x ≡ told_exact y → BothTell Agrees x (option_map (after_ata f answer fate) y) → BothTell (AgreesWithin n) y z
    → AllowsAta station y h args answer fate → BothTell (AgreesWithin n) x (option_map (after_ata f answer fate) z)
both_ata n station h args f fate answer None None None e p q a = tt
both_ata n station h args f fate answer (Some x) (Some b) (Some c) e p q a =
    agrees_then n x (after_ata f answer fate b) (after_ata f answer fate c) (e ∙ sym (ata_exact fate f answer b)) p
    (ata_agrees n b c q station h args f fate answer a)
both_ata n station h args f fate answer _ _ _ e p q a = absurd (grind arith)
