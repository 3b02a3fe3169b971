-- The place of a ticket among tickets that ascend.
use Rattle.std.proofs.Common.{ℕ, zero, suc, ◌≡◌, ◌<◌, ◌≤◌, Bool, true, false, List, [], ◌∷◌, length, get_or, Bor, Option, Some, None, refl, subst, arith, nat_eq, nat_lt, inl, inr}
use Rattle.std.specs.Prelude.{position}
use Rattle.std.specs.List.{position_or_len}
use Rattle.std.specs.List.Sorted.{IsPartitionedBy}
use Rattle.std.specs.Slice.{IsItemAt}
use Rattle.std.proofs.lemmas.Bool.{cases_eq, cases_lt, le-ltb, lt-ltb, ltb-false, ltb-true, ne_eqb}
use Rattle.aoe_initiator.specs.declared.pending.Pending.{Pending}
use Rattle.aoe_initiator.specs.Host.{IsInOrder}

abbrev pub has : ℕ → Pending → Bool
has ticket p = nat_eq p.ticket.0 ticket

abbrev pub lower : ℕ → Pending → Bool
lower ticket p = nat_lt p.ticket.0 ticket

-- those with a lower ticket stand ahead
pub partitioned : (ticket : ℕ) (xs : List Pending) → IsInOrder xs → IsPartitionedBy (lower ticket) xs
partitioned ticket [] order i j d le below passes = absurd (omega (arith, below))
partitioned ticket (x ∷ xs) order zero zero d le below passes = passes
partitioned ticket (x ∷ xs) order zero (suc j) d le below passes =
    lt-ltb x.ticket.0 ticket (omega (arith, order.0 j d (omega (arith, below)), ltb-true (get_or xs j d).ticket.0 ticket passes))
partitioned ticket (x ∷ xs) order (suc i) zero d le below passes = absurd (omega (arith, le))
partitioned ticket (x ∷ xs) order (suc i) (suc j) d le below passes = partitioned ticket xs order.1 i j d (omega (arith, le)) (omega (arith, below)) passes

lower-not : (ticket : ℕ) (p : Pending) → lower ticket p ≡ true → has ticket p ≡ false
lower-not ticket p low = ne_eqb p.ticket.0 ticket (λ same. absurd (omega (arith, ltb-true p.ticket.0 ticket low, same)))

first-at : (ticket : ℕ) (xs : List Pending) (i : ℕ) → i < length xs → ((k : ℕ) (d : Pending) → k < i → lower ticket (get_or xs k d) ≡ true)
    → ((d : Pending) → has ticket (get_or xs i d) ≡ true)
    → position_or_len (has ticket) xs ≡ i
first-at ticket [] i inside low here = absurd (omega (arith, inside))
first-at ticket (x ∷ xs) zero inside low here = let is : has ticket x ≡ true = here x in rw is refl
first-at ticket (x ∷ xs) (suc i) inside low here =
    let other : has ticket x ≡ false = lower-not ticket x (low 0 x (omega arith)) in
    rw other (omega (arith, first-at ticket xs i (omega (arith, inside)) (λ k d below. low (suc k) d (omega (arith, below))) here))

none-at : (ticket : ℕ) (xs : List Pending) → ((k : ℕ) (d : Pending) → k < length xs → has ticket (get_or xs k d) ≡ false)
    → position_or_len (has ticket) xs ≡ length xs
none-at ticket [] none = refl
none-at ticket (x ∷ xs) none =
    let other : has ticket x ≡ false = none 0 x (omega arith) in
    rw other (omega (arith, none-at ticket xs (λ k d below. none (suc k) d (omega (arith, below)))))

pub place-some : (ticket : ℕ) (xs : List Pending) (i : ℕ) → i < length xs → ((k : ℕ) (d : Pending) → 0 ≤ k → k < i → lower ticket (get_or xs k d) ≡ true)
    → ((d : Pending) → has ticket (get_or xs i d) ≡ true)
    → Some i ≡ position (has ticket) xs
place-some ticket xs i inside low here =
    let is : position_or_len (has ticket) xs ≡ i = first-at ticket xs i inside (λ k d below. low k d (omega arith) below) here in
    let found : nat_lt i (length xs) ≡ true = lt-ltb i (length xs) inside in
    rw (is, found) refl

later : (xs : List Pending) (i k : ℕ) (d : Pending) → IsInOrder xs → i < k → k < length xs → (get_or xs i d).ticket.0 < (get_or xs k d).ticket.0
later [] i k d order more inside = absurd (omega (arith, inside))
later (x ∷ xs) i zero d order more inside = absurd (omega (arith, more))
later (x ∷ xs) zero (suc k) d order more inside = order.0 k d (omega (arith, inside))
later (x ∷ xs) (suc i) (suc k) d order more inside = later xs i k d order.1 (omega (arith, more)) (omega (arith, inside))

pub place-none : (ticket : ℕ) (xs : List Pending) (i : ℕ) → IsInOrder xs → ((k : ℕ) (d : Pending) → 0 ≤ k → k < i → lower ticket (get_or xs k d) ≡ true)
    → ((k : ℕ) (d : Pending) → i ≤ k → k < length xs → lower ticket (get_or xs k d) ≡ false)
    → ((d : Pending) → i < length xs → has ticket (get_or xs i d) ≡ false) → None ≡ position (has ticket) xs
place-none ticket xs i order low high here =
    let is : position_or_len (has ticket) xs ≡ length xs = none-at ticket xs other in
    let past : nat_lt (length xs) (length xs) ≡ false = le-ltb (length xs) (length xs) (omega arith) in
    rw (is, past) refl
  where
    other : (k : ℕ) (d : Pending) → k < length xs → has ticket (get_or xs k d) ≡ false
    other k d inside = elim (cases_lt k i) [
      | inl before ↦ lower-not ticket (get_or xs k d) (low k d (omega arith) before)
      | inr from ↦ elim (cases_eq k i) [
        | inl same ↦ rw same (here d (omega (arith, same, inside)))
        | inr differ ↦
            let here_is = here d (omega (arith, from, inside)) in
            let least = ltb-false (get_or xs i d).ticket.0 ticket (high i d (omega arith) (omega (arith, from, inside))) in
            let more = later xs i k d order (omega (arith, from, differ)) inside in
            ne_eqb (get_or xs k d).ticket.0 ticket (λ same. absurd (omega (arith, least, more, same)))
      ]
    ]

pub get_or-any : (xs : List Pending) (i : ℕ) (d e : Pending) → i < length xs → get_or xs i d ≡ get_or xs i e
get_or-any [] i d e inside = absurd (omega (arith, inside))
get_or-any (x ∷ xs) zero d e inside = refl
get_or-any (x ∷ xs) (suc i) d e inside = get_or-any xs i d e (omega (arith, inside))

pub item-past : (xs : List Pending) (i : ℕ) (r : Option (Bor Pending)) → r ≡ None → IsItemAt xs i r → length xs ≤ i
item-past xs i r none item = let P : Option (Bor Pending) → Type 0 = λ o. IsItemAt xs i o in let here = subst P none item in here.3
