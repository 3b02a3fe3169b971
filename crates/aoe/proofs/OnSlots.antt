-- The disks of a slot.
use Rattle.std.proofs.Common.{◌≡◌, ◌≤◌, ◌+◌, ◌*◌, ℕ, suc, List, [], ◌∷◌, length, Option, Some, refl, sym, ap, subst, ◌∙◌, arith}
use Rattle.std.specs.Prelude.{slice_get}
use Rattle.aoe.specs.Ending.{file_at, keep_at}
use Rattle.aoe.specs.Run.{OnSlot}

pub same-disk : {D : Type 0} (a b : D) → (let o : Option (Option D) = Some (Some a) in o) ≡ Some (Some b) → a ≡ b
same-disk a b e = let inner : (let o : Option _ = Some a in o) ≡ Some b = cc in cc

file-behind : {X : Type 0} (x y : X) (xs : List X) (slot : ℕ) → slice_get (x ∷ y ∷ xs) (file_at (suc slot)) ≡ slice_get xs (file_at slot)
file-behind x y xs slot = let same : 2 * suc slot ≡ suc (suc (2 * slot)) = omega arith in ap (slice_get (x ∷ y ∷ xs)) same

keep-behind : {X : Type 0} (x y : X) (xs : List X) (slot : ℕ) → slice_get (x ∷ y ∷ xs) (keep_at (suc slot)) ≡ slice_get xs (keep_at slot)
keep-behind x y xs slot = let same : 2 * suc slot + 1 ≡ suc (suc (2 * slot + 1)) = omega arith in ap (slice_get (x ∷ y ∷ xs)) same

module _ {D : Type 0} (R : D → D → D → D → Type 0) where
  pub on-first : (file file' keep keep' : D) (disks disks' : List (Option D)) → R file file' keep keep'
      → OnSlot R 0 (Some file ∷ Some keep ∷ disks) (Some file' ∷ Some keep' ∷ disks')
  on-first file file' keep keep' disks disks' r f f' k k' ef ef' ek ek' =
      subst (λ (x : D). R x f' k k') (same-disk file f ef) (subst (λ (x : D). R file x k k') (same-disk file' f' ef')
      (subst (λ (x : D). R file file' x k') (same-disk keep k ek) (subst (λ (x : D). R file file' keep x) (same-disk keep' k' ek') r)))

  pub on-then : (slot : ℕ) (x y x' y' : Option D) (disks disks' : List (Option D)) → OnSlot R slot disks disks'
      → OnSlot R (suc slot) (x ∷ y ∷ disks) (x' ∷ y' ∷ disks')
  on-then slot x y x' y' disks disks' on f f' k k' ef ef' ek ek' =
      on f f' k k' (sym (file-behind x y disks slot) ∙ ef) (sym (file-behind x' y' disks' slot) ∙ ef') (sym (keep-behind x y disks slot) ∙ ek)
      (sym (keep-behind x' y' disks' slot) ∙ ek')

  -- where there is one disk at most there is no keep of a slot
  pub on-few : (slot : ℕ) (disks disks' : List (Option D)) → length disks ≤ 1 → OnSlot R slot disks disks'
  on-few slot [] disks' few f f' k k' ef ef' ek ek' = absurd cc
  on-few slot (d ∷ []) disks' few f f' k k' ef ef' ek ek' =
      let behind : keep_at slot ≡ suc (2 * slot) = omega arith in
      let none : slice_get (d ∷ []) (suc (2 * slot)) ≡ Some (Some k) = sym (ap (slice_get (d ∷ [])) behind) ∙ ek in
      absurd cc
  on-few slot (d ∷ e ∷ disks) disks' few f f' k k' ef ef' ek ek' = absurd (omega (arith, few))

  pub on-none : (slot : ℕ) (disks disks' : List (Option D)) → length disks ≡ 0 → OnSlot R slot disks disks'
  on-none slot disks disks' empty = on-few slot disks disks' (omega (arith, empty))

pub on-map : {D : Type 0} (R T : D → D → D → D → Type 0) (slot : ℕ) (disks disks' : List (Option D)) → ((f f' k k' : D) → R f f' k k' → T f f' k k')
    → OnSlot R slot disks disks' → OnSlot T slot disks disks'
on-map R T slot disks disks' m on f f' k k' ef ef' ek ek' = m f f' k k' (on f f' k k' ef ef' ek ek')

-- a slot's disks, before and after
pub record Disks {D : Type 0} (slot : ℕ) (disks disks' : List (Option D)) : Type 0 where
  pub file : D
  pub file' : D
  pub keep : D
  pub keep' : D
  pub file_is : slice_get disks (file_at slot) ≡ Some (Some file)
  pub file_is' : slice_get disks' (file_at slot) ≡ Some (Some file')
  pub keep_is : slice_get disks (keep_at slot) ≡ Some (Some keep)
  pub keep_is' : slice_get disks' (keep_at slot) ≡ Some (Some keep')

pub disks-first : {D : Type 0} (file file' keep keep' : D) (disks disks' : List (Option D))
    → Disks 0 (Some file ∷ Some keep ∷ disks) (Some file' ∷ Some keep' ∷ disks')
disks-first file file' keep keep' disks disks' =
    record { file = file; file' = file'; keep = keep; keep' = keep'; file_is = refl; file_is' = refl; keep_is = refl; keep_is' = refl }

pub disks-then : {D : Type 0} (slot : ℕ) (x y x' y' : Option D) (disks disks' : List (Option D)) → Disks slot disks disks'
    → Disks (suc slot) (x ∷ y ∷ disks) (x' ∷ y' ∷ disks')
disks-then slot x y x' y' disks disks' d = record {
  file = d.file;
  file' = d.file';
  keep = d.keep;
  keep' = d.keep';
  file_is = file-behind x y disks slot ∙ d.file_is;
  file_is' = file-behind x' y' disks' slot ∙ d.file_is';
  keep_is = keep-behind x y disks slot ∙ d.keep_is;
  keep_is' = keep-behind x' y' disks' slot ∙ d.keep_is';
}
