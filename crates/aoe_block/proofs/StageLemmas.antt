-- The stages of a block's parts after one of them changed.
use Rattle.std.proofs.Common.{◌≡◌, ◌≢◌, ◌<◌, ◌+◌, ◌==◌, ◌⊎◌, ℕ, zero, suc, cond, true, false, List, [], ◌∷◌, length, set, replicate, arith, refl, sym, ap, ◌∙◌, inl, inr}
use Rattle.std.proofs.lemmas.List.{get_or-set_same, get_or-set_other}
use Rattle.std.proofs.lemmas.Bool.{cases_Bool, cases_eq, ne_eqb}
use Rattle.std.specs.List.{list_all}
use Rattle.aoe_block.specs.declared.stage.Stage.{Stage}
use Rattle.aoe_block.specs.declared.stage.Stage.TheVariants.{Pending, Handed, Ended}
use Rattle.aoe_block.specs.Fields.{count_left}
use Rattle.aoe_block.specs.Stages.{is_ended, is_handed, is_pending, is_under_way, stage_at}

-- the other stages stay, the changed one is new
pub stage_at-set : (stages : List Stage) (k j : ℕ) (stage : Stage) → k < length stages
    → ((j ≡ k) × (stage_at (set stages k stage) j ≡ stage)) ⊎ ((j ≢ k) × (stage_at (set stages k stage) j ≡ stage_at stages j))
stage_at-set stages k j stage lt = elim (cases_eq j k) [
  | inl e ↦ inl (e, ap (λ (i : ℕ). stage_at (set stages k stage) i) e ∙ get_or-set_same stages k stage Pending lt)
  | inr differ ↦ inr (differ, get_or-set_other stages k j stage Pending differ)
]

-- what the new stage and the others have in common
pub set_keeps : (P : Stage → Type 0) (stages : List Stage) (k j : ℕ) (stage : Stage) → k < length stages → P stage → (j ≢ k → P (stage_at stages j))
    → P (stage_at (set stages k stage) j)
set_keeps P stages k j stage lt here there = elim (stage_at-set stages k j stage lt) [ inl (e, new) ↦ rw new here | inr (differ, old) ↦ rw old (there differ) ]

pub within-pending : (stages : List Stage) (k : ℕ) → is_pending (stage_at stages k) ≡ false → k < length stages
within-pending [] k other = cc
within-pending (stage ∷ stages) zero other = omega arith
within-pending (stage ∷ stages) (suc k) other = let lt = within-pending stages k other in omega arith

pub under_way : (ticket : ℕ) (stage : Stage) → is_handed ticket stage ≡ true
    → (is_under_way stage ≡ true) × (is_pending stage ≡ false) × (is_ended stage ≡ false)
under_way ticket (Handed own) is = (refl, refl, refl)
under_way ticket _ is = absurd (cc)

pub count_left-set : (stages : List Stage) (k : ℕ) (stage : Stage) → k < length stages → is_ended (stage_at stages k) ≡ false → is_ended stage ≡ false
    → count_left (set stages k stage) ≡ count_left stages
count_left-set [] k stage lt was is = absurd (omega arith)
count_left-set (old ∷ stages) zero stage lt was is = rw (was, is) refl
count_left-set (old ∷ stages) (suc k) stage lt was is = ap (λ (n : ℕ). cond (is_ended old) 0 1 + n) (count_left-set stages k stage (omega arith) was is)

pub count_left-end : (stages : List Stage) (k : ℕ) → k < length stages → is_ended (stage_at stages k) ≡ false
    → count_left stages ≡ count_left (set stages k Ended) + 1
count_left-end [] k lt was = absurd (omega arith)
count_left-end (old ∷ stages) zero lt was = rw was (omega arith)
count_left-end (old ∷ stages) (suc k) lt was = let h = count_left-end stages k (omega arith) was in omega arith

pub none_left : (stages : List Stage) → list_all is_ended stages ≡ (count_left stages == 0)
none_left [] = refl
none_left (stage ∷ stages) = elim (cases_Bool (is_ended stage)) [
  | inl ended ↦ let same : 0 + count_left stages ≡ count_left stages = omega arith in rw (ended, same) (none_left stages)
  | inr other ↦ rw other (sym (ne_eqb (1 + count_left stages) 0 (λ e. omega arith)))
]

pub all_pending : (n k : ℕ) → stage_at (replicate n Pending) k ≡ Pending
all_pending zero k = refl
all_pending (suc n) zero = refl
all_pending (suc n) (suc k) = all_pending n k

pub count_left-pending : (n : ℕ) → count_left (replicate n Pending) ≡ n
count_left-pending zero = refl
count_left-pending (suc n) = let h = count_left-pending n in omega arith
