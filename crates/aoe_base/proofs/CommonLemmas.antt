-- Facts of lists, truth values, options, results and counts of faults that several crates use.
use Rattle.std.proofs.Common.{ℕ, zero, suc, ◌≡◌, ◌+◌, ◌-◌, ◌^◌, ◌<◌, ◌≤◌, not, cond, Bool, true, false, List, [], ◌∷◌, ◌++◌, length, replicate, Option, Some, None, IsSome, is_some, Result, Ok, Err, OnErr, inl, inr, refl, sym, ap, ◌∙◌, arith}
use Rattle.std.specs.Prelude.{All, IfNone}
use Rattle.std.specs.List.{list_all, range_with_len, remove}
use Rattle.std.specs.Str.{bytes_eq}
use Rattle.std.proofs.lemmas.Bool.{cases_lt}
use Rattle.std.proofs.lemmas.List.Elements.{All-cons, All-head, All-tail}
use Rattle.std.proofs.lemmas.Slice.Eq.{bytes_eq-Decides}
use Rattle.aoe_base.specs.Faults.{Rose}

-- LISTS

pub All-remove : {X : Type 0} (P : X → Type 0) (xs : List X) (i : ℕ) → i < length xs → All P xs → All P (remove xs i)
All-remove P [] i within all = absurd (omega arith)
All-remove P (x ∷ xs) zero within all = All-tail P x xs all
All-remove P (x ∷ xs) (suc i) within all =
    All-cons P x (remove xs i) (All-head P x xs all) (All-remove P xs i (omega arith) (All-tail P x xs all))

-- one number more
pub range-more : (a n : ℕ) → range_with_len a (suc n) ≡ range_with_len a n ++ (a + n) ∷ []
range-more a zero = ap (λ (m : ℕ). m ∷ []) (omega arith)
range-more a (suc n) =
    ap (λ (l : List ℕ). a ∷ l) (range-more (a + 1) n ∙ ap (λ (m : ℕ). range_with_len (a + 1) n ++ m ∷ []) (omega arith))

pub none-set : (n : ℕ) → list_all not (replicate n false) ≡ true
none-set zero = refl
none-set (suc n) = none-set n

pub bytes-apart : (a b : List ℕ) → bytes_eq a b ≡ false → bytes_eq b a ≡ false
bytes-apart a b apart = by (bytes_eq b a) refl
  where
    by : (t : Bool) → bytes_eq b a ≡ t → t ≡ false
    by false is = refl
    by true is = absurd (let back = (bytes_eq-Decides a b).1 (sym ((bytes_eq-Decides b a).0 is)) in cc)

-- TRUTH VALUES

pub not-both : (b : Bool) → b ≡ true → b ≡ false → ⊥
not-both b is isnt = cc

-- one counts at most what the other does
pub one-at-most : (a b : Bool) → (a ≡ true → b ≡ true) → cond a 1 0 ≤ cond b 1 0
one-at-most true false more = absurd (let no = more refl in cc)
one-at-most _ _ more = omega arith

-- OPTIONS AND RESULTS

pub if-none : {X : Type 0} (o : Option X) (P : Type 0) → P → IfNone o P
if-none None P holds = holds
if-none (Some x) P holds = tt

pub on-err : {T E P : Type 0} (r : Result T E) → P → OnErr r P
on-err (Ok x) p = tt
on-err (Err e) p = p

pub none-from : {X : Type 0} (x y : Option X) → is_some y ≡ is_some x → x ≡ None → y ≡ None
none-from x None same none = refl
none-from None (Some y) same none = cc
none-from (Some x) (Some y) same none = cc

pub some-from : {X : Type 0} (x y : Option X) → is_some y ≡ is_some x → IsSome x → IsSome y
some-from x y same some = cc

-- COUNTS OF FAULTS

-- it rose behind a time at which it had not fallen
pub rose-later : (a b c : ℕ) → a ≤ b → b ≤ c → Rose b c → Rose a c
rose-later a b c before more rose = λ low. elim (cases_lt b (2 ^ 64 - 1)) [
  | inl below ↦ let above : b < c = rose below in omega arith
  | inr full ↦ omega arith
]

-- it rose before a time, and did not fall behind it
pub rose-before : (a b c : ℕ) → b ≤ c → Rose a b → Rose a c
rose-before a b c more rose = λ low. let above : a < b = rose low in omega arith
