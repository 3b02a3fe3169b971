-- What a slab has after a value was added.
use Rattle.std.proofs.Common.{ℕ, zero, suc, ◌≡◌, ◌≢◌, List, [], ◌∷◌, get_or, Option, Some, None, refl, sym, arith}
use Rattle.std.specs.List.Sorted.{IsPermutation}
use Rattle.std.proofs.lemmas.List.Sorted.{IsPermutation-cons, IsPermutation-refl, IsPermutation-swap, IsPermutation-trans}
use Rattle.aoe_flight.specs.declared.outstanding.Outstanding.{Outstanding}
use Rattle.aoe_flight.proofs.SlotLemmas.{held}

pub no-values : (slots : List (Option Outstanding)) → ((key : ℕ) → get_or slots key None ≡ None) → held slots ≡ []
no-values [] none = refl
no-values (o ∷ slots) none = let first : o ≡ None = none 0 in rw first (no-values slots (λ key. none (suc key)))

same-values : (old new : List (Option Outstanding)) → ((key : ℕ) → get_or new key None ≡ get_or old key None) → held new ≡ held old
same-values [] new same = no-values new same
same-values (o ∷ old) [] same = sym (no-values (o ∷ old) (λ key. sym (same key)))
same-values (None ∷ old) (n ∷ new) same = let first : n ≡ None = same 0 in rw first (same-values old new (λ key. same (suc key)))
same-values (Some c ∷ old) (n ∷ new) same = let first : n ≡ Some c = same 0 in rw (first, same-values old new (λ key. same (suc key)))

swap-front : (a b : Outstanding) (xs : List Outstanding) → IsPermutation (a ∷ b ∷ xs) (b ∷ a ∷ xs)
swap-front a b xs = IsPermutation-swap (a ∷ b ∷ xs) (b ∷ a ∷ xs) 0 1 (omega arith) (omega arith) refl

pub inserted : (old new : List (Option Outstanding)) (key : ℕ) (c : Outstanding) → get_or old key None ≡ None → get_or new key None ≡ Some c
    → ((other : ℕ) → other ≢ key → get_or new other None ≡ get_or old other None) → IsPermutation (c ∷ held old) (held new)
inserted old [] key c vacant there others = absurd cc
inserted [] (n ∷ new) zero c vacant there others =
    rw (there, no-values new (λ k. others (suc k) (λ same. absurd (omega (arith, same))))) (IsPermutation-refl (c ∷ []))
inserted (o ∷ old) (n ∷ new) zero c vacant there others =
    rw (there, vacant, same-values old new (λ k. others (suc k) (λ same. absurd (omega (arith, same))))) (IsPermutation-refl (c ∷ held old))
inserted [] (n ∷ new) (suc key) c vacant there others =
    let first : n ≡ None = others 0 (λ same. absurd (omega (arith, same))) in
    rw first (inserted [] new key c refl there (λ other differs. others (suc other) (λ same. differs (omega (arith, same)))))
inserted (None ∷ old) (n ∷ new) (suc key) c vacant there others =
    let first : n ≡ None = others 0 (λ same. absurd (omega (arith, same))) in
    rw first (inserted old new key c vacant there (λ other differs. others (suc other) (λ same. differs (omega (arith, same)))))
inserted (Some d ∷ old) (n ∷ new) (suc key) c vacant there others =
    let first : n ≡ Some d = others 0 (λ same. absurd (omega (arith, same))) in
    let rest = inserted old new key c vacant there (λ other differs. others (suc other) (λ same. differs (omega (arith, same)))) in
    rw first (IsPermutation-trans _ (d ∷ c ∷ held old) _ (swap-front c d (held old)) (IsPermutation-cons d (c ∷ held old) (held new) rest))
