-- What is known of a device of so many sectors, and what a frame leaves of it.
use Rattle.std.proofs.Common.{◌≡◌, ◌≤◌, ◌+◌, ℕ, Bool, true, false, Ok, Err, if◌then◌else◌, List, refl, ◌∙◌, arith}
use Rattle.std.proofs.lemmas.Bool.Decides.{nat_tests}
use Rattle.aoe_base.specs.declared.refusal.AoeError.TheVariants.{BadArgument}
use Rattle.aoe_base.specs.declared.sectors.Span.{Span}
use Rattle.aoe_ata.specs.Decision.{answer_of, decision}
use Rattle.aoe_ata.specs.declared.command.AtaCommand.{AtaCommand}
use Rattle.aoe_ata.specs.declared.decision.AtaAnswer.{AtaAnswer}
use Rattle.aoe_ata.specs.declared.decision.AtaAnswer.TheVariants.{Give, Put}
use Rattle.aoe_ata.specs.declared.decision.AtaDecision.{AtaDecision}
use Rattle.aoe_lists.specs.Settings.{Settings}
use Rattle.aoe_target.specs.declared.heard.Effect.TheVariants as effect
use Rattle.aoe_target.specs.declared.station.Station.{Station}
use Rattle.aoe_target.specs.declared.verdict.Verdict.{Verdict}
use Rattle.aoe_target.specs.declared.verdict.Verdict.TheVariants as verdict
use Rattle.aoe_target.specs.Law.{after_ata, cut, replied, Fate}
use Rattle.aoe_target.specs.Sectors.{spoils, Same, Sectors}
use Rattle.aoe_target.specs.Verdict.{as_marked, ata_verdict, decided, is_heard, judged}
use Rattle.aoe_target.specs.Verdict as judge
use Rattle.aoe_sim_shelves.specs.Shelf.{SameWithin}

-- SECTORS

pub same_then : (n : ℕ) (a b c : Sectors) → Same a b → SameWithin n b c → SameWithin n a c
same_then n a b c ab bc = record {
  known = λ s l. ab.known s ∙ bc.known s l;
  marks = λ s l. ab.marks s ∙ bc.marks s l;
  settled = λ s l. ab.settled s ∙ bc.settled s l;
  exact = ab.exact ∙ bc.exact;
}

module _ (n : ℕ) (a b : Sectors) (ab : SameWithin n a b) where
  spoils_within : (span : Span) → SameWithin n (spoils span a) (spoils span b)
  spoils_within span = record {
    known = λ s l. rw (ab.exact, ab.known s l);
    marks = λ s l. rw (ab.marks s l);
    settled = ab.settled;
    exact = ab.exact;
  }

  pub ata_within : (fate : Fate) (f : List ℕ) (answer : AtaAnswer) → SameWithin n (after_ata f answer fate a) (after_ata f answer fate b)
  ata_within cut f (Put span) = spoils_within span
  ata_within (replied effect.None reply) f (Give span) =
      record { known = λ s l. rw (ab.known s l); marks = ab.marks; settled = ab.settled; exact = ab.exact }
  ata_within (replied (effect.Wrote span) reply) f answer =
      record { known = λ s l. rw (ab.known s l); marks = λ s l. rw (ab.marks s l); settled = ab.settled; exact = ab.exact }
  ata_within (replied (effect.WriteFault span) reply) f answer = spoils_within span
  ata_within (replied effect.Synced reply) f answer =
      record { known = ab.known; marks = λ s l. refl; settled = ab.known; exact = ab.exact }
  ata_within _ f _ = ab

-- whether it is known what failed calls leave stays so
pub ata_exact : (fate : Fate) (f : List ℕ) (answer : AtaAnswer) (k : Sectors) → (after_ata f answer fate k).exact ≡ k.exact
ata_exact fate f answer k = grind arith

-- WHAT IS READ IS WITHIN THE DEVICE

abbrev pub InEnd : ℕ → AtaAnswer → Type 0
InEnd n (Give span) = span.at + span.count ≤ n
InEnd n answer = Unit {0}

abbrev pub Ranged : ℕ → Verdict → Type 0
Ranged n (verdict.Ata d) = InEnd n d.answer
Ranged n v = Unit {0}

answer_end : (n : ℕ) (c : AtaCommand) → InEnd n (answer_of n c)
answer_end n c = grind (arith, nat_tests)

marked_end : (n : ℕ) (read_only : Bool) (a : AtaAnswer) → InEnd n a → InEnd n (as_marked read_only a)
marked_end n true (Put span) e = tt
marked_end n false (Put span) e = e
marked_end n read_only (Give span) e = e
marked_end n read_only _ e = tt

decided_if : (n : ℕ) (read_only b : Bool) (d : AtaDecision) → InEnd n d.answer → Ranged n (decided read_only (if b then Ok d else Err BadArgument))
decided_if n read_only true d e = marked_end n read_only d.answer e
decided_if n read_only false d e = tt

decided_end : (n max : ℕ) (read_only : Bool) (args : List ℕ) → Ranged n (decided read_only (decision n max args))
unfolding decision
decided_end n max read_only args = decided_if n read_only _ _ (answer_end n _)

either : (n : ℕ) (b : Bool) (x y : Verdict) → Ranged n x → Ranged n y → Ranged n (if b then x else y)
either n b x y p q = grind arith

pub verdict_end : (station : Station) (lists : Settings) (f : List ℕ) → Ranged station.sectors (judge.verdict station lists f)
unfolding judge.verdict
verdict_end station lists f = search (either station.sectors, decided_end, tt) depth 12
