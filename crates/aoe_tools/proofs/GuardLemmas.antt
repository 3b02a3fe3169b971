-- The list that an edit makes of the one that was read.
use Rattle.std.proofs.Common.{ℕ, zero, suc, ◌≡◌, ◌≤◌, ◌<◌, ◌+◌, ◌-◌, ◌/◌, ◌==◌, Bool, true, false, List, [], ◌∷◌, ◌++◌, length, drop, map, refl, ap, arith}
use Rattle.std.specs.Prelude.{Ok, Err, slice_index_or}
use Rattle.std.specs.Simd.{first_chunks}
use Rattle.std.proofs.lemmas.List.{length-drop}
use Rattle.aoe_base.specs.Addresses.{holds}
use Rattle.aoe_base.specs.declared.address.Mac.{Mac}
use Rattle.aoe_lists.specs.Addresses.{without}
use Rattle.aoe_lists.specs.Masks.{after_directives}
use Rattle.aoe_lists.specs.Settings.{max_addresses}
use Rattle.aoe_lists.specs.declared.masks.MaskError.{MaskError}
use Rattle.aoe_lists.specs.declared.dir.Dir.{Dir}
use Rattle.aoe_tools.specs.Text.{pieces}
use Rattle.aoe_tools.specs.Guard.{changed, directive_by, edited}

-- there are as many pieces as are taken
length-chunks : {X : Type 0} (n k : ℕ) (xs : List X) → length (first_chunks n k xs) ≡ k
length-chunks n zero xs = refl
length-chunks n (suc k) xs = ap suc (length-chunks n k (drop n xs))

eighth : (n : ℕ) → n ≤ 2048 → (n - 4) / 8 ≤ 256
eighth n few = omega (arith, few)

pub few-pieces : (args : List ℕ) → length args ≤ 2048 → length (pieces 8 4 args) ≤ 256
few-pieces args few = rw (length-chunks 8 (length (drop 4 args) / 8) (drop 4 args), length-drop 4 args) (eighth (length args) few)

no-list : {e : MaskError} {next : List Mac} → Err e ≡ Ok next → ⊥
no-list h = cc

-- the address of a directive of eight bytes
pub last_six : (dir : List ℕ) → length dir ≡ 8
    → slice_index_or dir 2 0 ∷ slice_index_or dir 3 0 ∷ slice_index_or dir 4 0 ∷ slice_index_or dir 5 0 ∷ slice_index_or dir 6 0 ∷ slice_index_or dir 7 0 ∷ []
    ≡ drop 2 dir
last_six (a ∷ b ∷ c ∷ d ∷ e ∷ f ∷ g ∷ h ∷ []) eight = refl
last_six _ eight = cc

-- a shelf makes the same list, where it makes one
pub edited-as : (list next : List Mac) (dirs : List Dir) → after_directives list (map directive_by dirs) ≡ Ok next → edited list dirs ≡ next
edited-as list next [] h = cc
edited-as list next (d ∷ dirs) h =
    go d.add (holds list d.mac) (length list == max_addresses) refl refl refl (λ l. edited-as l next dirs)
  where
    go : (add there full : Bool) → d.add ≡ add → holds list d.mac ≡ there → (length list == max_addresses) ≡ full
        → ((l : List Mac) → after_directives l (map directive_by dirs) ≡ Ok next → edited l dirs ≡ next) → edited (changed list d) dirs ≡ next
    go true true full e f g rest = rw (e, f) (rest list (rw (e, f) at h))
    go true false true e f g rest = absurd (no-list (rw (e, f, g) at h))
    go true false false e f g rest = rw (e, f) (rest (list ++ d.mac ∷ []) (rw (e, f, g) at h))
    go false there full e f g rest = rw e (rest (without list d.mac) (rw e at h))
