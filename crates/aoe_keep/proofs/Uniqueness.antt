-- Addresses that are read one by one.
use Rattle.std.proofs.Common.{◌≡◌, ◌≤◌, ◌<◌, ◌+◌, ◌&&◌, ◌||◌, not, ℕ, zero, suc, Bool, true, false, List, [], ◌∷◌, ◌++◌, length, take, drop, get_or, refl, arith, sym, ◌∙◌, ap, take-append-drop}
use Rattle.std.specs.Simd.{first_chunks}
use Rattle.std.proofs.lemmas.List.{drop_more, map-append}
use Rattle.std.proofs.lemmas.List.Folds.{list_any-append}
use Rattle.std.proofs.lemmas.Bool.{and_right, or_right}
use Rattle.aoe_base.specs.declared.address.Mac.{Mac}
use Rattle.aoe_base.specs.Addresses.{all_unique, holds, same_address}
use Rattle.aoe_lists.specs.Reserves.{addresses}
use Rattle.aoe_base.proofs.AddressLemmas.{same_address-comm}

pub take-first_chunks : (k count : ℕ) (xs : List ℕ) → count ≤ k → take count (first_chunks 6 k xs) ≡ first_chunks 6 count xs
take-first_chunks k zero xs h = refl
take-first_chunks zero (suc count) xs h = absurd (omega arith)
take-first_chunks (suc k) (suc count) xs h = ap (λ (l : List (List ℕ)). take 6 xs ∷ l) (take-first_chunks k count (drop 6 xs) (omega arith))

-- an address that stands in a list and again behind it
twice : (list : List Mac) (a : Mac) (rest : List Mac) → holds list a ≡ true → all_unique (list ++ a ∷ rest) ≡ false
twice [] a rest e = cc
twice (x ∷ list) a rest e = at (same_address x a) refl e (λ h. twice list a rest h)
  where
    at : (t : Bool) → same_address x a ≡ t → (t || holds list a) ≡ true → (holds list a ≡ true → all_unique (list ++ a ∷ rest) ≡ false)
        → (not (holds (list ++ a ∷ rest) x) && all_unique (list ++ a ∷ rest)) ≡ false
    at true same e later =
        let again : holds (list ++ a ∷ rest) x ≡ true = list_any-append (λ b. same_address b x) list (a ∷ rest)
        ∙ ap (λ t. holds list x || (t || holds rest x)) (same_address-comm a x ∙ same) ∙ or_right (holds list x) true refl in
        ap (λ t. not t && all_unique (list ++ a ∷ rest)) again
    at false same e later = and_right _ _ (later e)

pub twice_at : (sixes : List (List ℕ)) (i : ℕ) (d : List ℕ) → i < length sixes → holds (addresses (take i sixes)) (record { 0 = get_or sixes i d }) ≡ true
    → all_unique (addresses sixes) ≡ false
twice_at sixes i d l e =
    let split : sixes ≡ take i sixes ++ get_or sixes i d ∷ drop (i + 1) sixes =
    sym (take-append-drop i sixes) ∙ (λ j. take i sixes ++ drop_more sixes i d l j) in
    let parts = map-append _ (take i sixes) (get_or sixes i d ∷ drop (i + 1) sixes) in
    (λ j. all_unique (addresses (split j))) ∙ ap all_unique parts ∙ twice (addresses (take i sixes)) _ (addresses (drop (i + 1) sixes)) e
