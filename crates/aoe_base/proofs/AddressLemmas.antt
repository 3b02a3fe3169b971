-- Addresses that are equal, and lists of which none stands twice.
use Rattle.std.proofs.Common.{◌≡◌, ◌||◌, not, ℕ, zero, suc, ◌<◌, Bool, true, false, List, [], ◌∷◌, length, get_or, Some, refl, sym, ap, subst, arith}
use Rattle.std.specs.Prelude.{slice_get}
use Rattle.std.specs.Bool.{Decides}
use Rattle.std.proofs.lemmas.Bool.{and_parts, not-true, or_left, or_right}
use Rattle.std.proofs.lemmas.Bool.Decides.{same_from_decides}
use Rattle.std.proofs.lemmas.Option.{slice_get-get_or}
use Rattle.std.proofs.lemmas.Slice.Eq.{bytes_eq-Decides}
use Rattle.aoe_base.specs.declared.address.Mac.{Mac}
use Rattle.aoe_base.specs.Addresses.{same_address, holds, all_unique, IsDistinct}

-- ---- one address

pub same_address-Decides : (a b : Mac) → Decides (same_address a b) (a ≡ b)
same_address-Decides a b =
    let bytes = bytes_eq-Decides a.0 b.0 in
    ((λ e. ap (λ (x : List ℕ). let m : Mac = record { 0 = x } in m) (bytes.0 e)), (λ e. bytes.1 (ap (λ (m : Mac). m.0) e)))

pub same-address : (a b : Mac) → same_address a b ≡ true → a ≡ b
same-address a b e = (same_address-Decides a b).0 e

pub same_address-refl : (a : Mac) → same_address a a ≡ true
same_address-refl a = (same_address-Decides a a).1 refl

pub same_address-comm : (a b : Mac) → same_address a b ≡ same_address b a
same_address-comm a b = same_from_decides (same_address a b) (same_address b a) (same_address-Decides a b)
    ((λ e. sym (same-address b a e)), (λ e. (same_address-Decides b a).1 (sym e)))

-- ---- an address and its places in a list

-- a list holds what stands at a place of it
pub holds-at : (list : List Mac) (k : ℕ) (a : Mac) → slice_get list k ≡ Some a → holds list a ≡ true
holds-at [] k a e = absurd cc
holds-at (b ∷ list) zero a e =
    let s : b ≡ a = cc in
    or_left (same_address b a) (holds list a) ((same_address-Decides b a).1 s)
holds-at (b ∷ list) (suc k) a e = or_right (same_address b a) (holds list a) (holds-at list k a e)

pub holds-each : (list : List Mac) (k : ℕ) (d : Mac) → k < length list → holds list (get_or list k d) ≡ true
holds-each list k d inside = holds-at list k (get_or list k d) (slice_get-get_or list k d inside)

-- what a list holds has a place there
pub place-of : (list : List Mac) (a : Mac) → holds list a ≡ true → (i : ℕ) × (slice_get list i ≡ Some a)
place-of [] a is = absurd cc
place-of (b ∷ list) a is = at (same_address b a) refl is (place-of list a)
  where
    at : (t : Bool) → same_address b a ≡ t → (t || holds list a) ≡ true → (holds list a ≡ true → (i : ℕ) × (slice_get list i ≡ Some a))
        → (i : ℕ) × (slice_get (b ∷ list) i ≡ Some a)
    at true same is_true rest = (0, ap (λ (m : Mac). Some m) (same-address b a same))
    at false other is_true rest = let behind = rest is_true in (suc behind.0, behind.1)

-- ---- lists of which none stands twice

pub all-distinct : (list : List Mac) → all_unique list ≡ true → IsDistinct list
all-distinct [] e i j d lt most same = absurd (omega arith)
all-distinct (a ∷ list) e i zero d lt most same = absurd (omega arith)
all-distinct (a ∷ list) e zero (suc j) d lt most same =
    let p = and_parts (not (holds list a)) (all_unique list) e in
    let there : holds list (get_or list j d) ≡ true = holds-each list j d (omega arith) in
    let missing : holds list (get_or list j d) ≡ false = subst (λ m. holds list m ≡ false) same (not-true (holds list a) p.0) in
    absurd cc
all-distinct (a ∷ list) e (suc i) (suc j) d lt most same =
    all-distinct list (and_parts (not (holds list a)) (all_unique list) e).1 i j d (omega arith) (omega arith) same
