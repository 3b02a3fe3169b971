-- Mark disks that don't say that a mirror is clean.
use Rattle.std.proofs.Common.{◌≡◌, ◌≤◌, ◌*◌, ◌-◌, ◌∙◌, ℕ, true, false, Some, List, [], length, take, replicate, ap, arith, inl, inr, refl, sym}
use Rattle.std.proofs.lemmas.Bool.{both_ways, cases_lt}
use Rattle.std.proofs.lemmas.List.{drop-replicate, drop_all, length-replicate, take-replicate}
use Rattle.std.proofs.lemmas.Option.{same_Some}
use Rattle.aoe_disk.specs.Memory.{Memory, fresh}
use Rattle.aoe_mirror.specs.Clean.{clean_at, clean_in}
use Rattle.aoe_mirror.proofs.Cleaning.{clean_is, unclean_in}

nothing_in : clean_in [] ≡ Some false
unfolding clean_in
nothing_in = refl

one_says : (bytes : List ℕ) → length bytes ≤ 512 → clean_at bytes ≡ Some false
one_says bytes size = clean_is bytes ∙ ap clean_in (ap (take 512) (drop_all 512 bytes size)) ∙ nothing_in

zeros_say : (n : ℕ) → clean_at (replicate (512 * n) 0) ≡ Some false
zeros_say n = elim (cases_lt 1 n) [
  | inl two ↦ clean_is (replicate (512 * n) 0) ∙ ap clean_in (ap (take 512) (drop-replicate (512 * 1) (512 * n) 0)
      ∙ take-replicate 512 (512 * n - 512 * 1) 0 (omega (arith, two))) ∙ unclean_in 512 (omega arith)
  | inr one ↦ one_says (replicate (512 * n) 0) (omega (arith, one, length-replicate {A = ℕ} (512 * n) 0))
]

silent : {X : Type 0} (mark : Memory) → clean_at mark.bytes ≡ Some false → clean_at mark.bytes ≡ Some true → X
silent mark off on = let no : false ≡ true = same_Some false true (sym off ∙ on) in absurd (both_ways false refl no)

pub new_silent : {X : Type 0} (mark : Memory) (n : ℕ) → mark ≡ fresh (replicate (512 * n) 0) → clean_at mark.bytes ≡ Some true → X
new_silent mark n is = silent mark (ap (λ (m : Memory). clean_at m.bytes) is ∙ zeros_say n)

pub image_silent : {X : Type 0} (mark : Memory) (image : List ℕ) → length image ≤ 512 → mark ≡ fresh image → clean_at mark.bytes ≡ Some true → X
image_silent mark image size is = silent mark (ap (λ (m : Memory). clean_at m.bytes) is ∙ one_says image size)
