-- The texts of names of devices.
use Rattle.std.proofs.Common.{◌≡◌, ℕ, suc, ◌+◌, ◌-◌, ◌<◌, List, [], ◌∷◌, ◌++◌, length, drop, take, get_or, Option, Some, None, Bool, true, false, cond, refl, sym, ap, subst, ◌∙◌, arith, drop-cons, nat_lt}
use Rattle.std.specs.Prelude.{if◌then◌else◌, option_and_then, ◌==◌}
use Rattle.std.specs.List.{list_all, position_or_len}
use Rattle.std.specs.Char.{is_ascii_digit}
use Rattle.std.proofs.Math.Seq.{take-append_seam, drop-append-add}
use Rattle.std.proofs.lemmas.Bool.{and_parts, eqb-true, lt-ltb}
use Rattle.std.proofs.lemmas.List.{length-append, take-append-drop}
use Rattle.std.proofs.lemmas.List.Sums.{passes_at_first}
use Rattle.aoe_base.specs.declared.address.TargetId.{TargetId}
use Rattle.aoe_base.specs.Decimal.{number_of}
use Rattle.aoe_base.specs.Names.{device_of, id_of, parts_of, IsNameOf}

is_point : ℕ → Bool
is_point c = c == 46

-- what is behind the first letter, cut at its first point
cut : (rest : List ℕ) → position_or_len is_point rest < length rest
    → rest ≡ take (position_or_len is_point rest) rest ++ 46 ∷ drop (suc (position_or_len is_point rest)) rest
unfolding is_point
cut rest inside =
    let n : ℕ = position_or_len is_point rest in
    let passes = passes_at_first is_point rest 0 inside in
    let point : get_or rest n 0 ≡ 46 = grind arith in
    let tail : drop n rest ≡ 46 ∷ drop (suc n) rest = drop-cons rest n 0 inside ∙ ap (λ (c : ℕ). c ∷ drop (suc n) rest) point in
    sym (take-append-drop n rest) ∙ ap (λ (t : List ℕ). take n rest ++ t) tail

-- digits have no point
past-digits : (digits slot : List ℕ) → list_all is_ascii_digit digits ≡ true → position_or_len is_point (digits ++ 46 ∷ slot) ≡ length digits
unfolding is_point
past-digits [] slot are = refl
past-digits (d ∷ digits) slot are =
    let both = and_parts (is_ascii_digit d) (list_all is_ascii_digit digits) are in
    let is = both.0 in
    let other : (d == 46) ≡ false = grind arith in
    rw (other, past-digits digits slot both.1) (omega arith)

digits-of : (text : List ℕ) (max value : ℕ) → number_of text max ≡ Some value → list_all is_ascii_digit text ≡ true
digits-of text max value is = grind arith

id-parts : (x y : Option ℕ) (id : TargetId)
    → option_and_then {T = ℕ} {U = TargetId} (λ major. option_and_then {T = ℕ} {U = TargetId} (λ minor. Some record { major = major; minor = minor }) y) x
    ≡ Some id
    → (x ≡ Some id.major) × (y ≡ Some id.minor)
id-parts None y id e = absurd cc
id-parts (Some a) None id e = absurd cc
id-parts (Some a) (Some b) id e = (cc, cc)

-- the parts of a text that is read as a device
taken : (f : ℕ → Option TargetId) (first inside : Bool) (n : ℕ) (id : TargetId)
    → (if first then option_and_then f (cond inside (Some n) None) else None) ≡ Some id → (first ≡ true) × (inside ≡ true) × (f n ≡ Some id)
taken f true true n id e = (refl, refl, e)
taken f true false n id e = absurd cc
taken f false inside n id e = absurd cc

named-rest : (id : TargetId) (rest : List ℕ) → position_or_len is_point rest < length rest
    → id_of (take (position_or_len is_point rest) rest) (drop (suc (position_or_len is_point rest)) rest) ≡ Some id → IsNameOf id (101 ∷ rest)
named-rest id rest inside is =
    let n : ℕ = position_or_len is_point rest in
    let parts = id-parts (number_of (take n rest) 65534) (number_of (drop (suc n) rest) 254) id is in
    record {
      shelf = take n rest;
      slot = drop (suc n) rest;
      text_is = ap (λ (t : List ℕ). 101 ∷ t) (cut rest inside);
      major = parts.0;
      minor = parts.1;
    }

less : (n : ℕ) → 1 + n - 1 ≡ n
less n = omega arith

more : (n : ℕ) → 1 + n + 1 ≡ suc (suc n)
more n = omega arith

pub named : (id : TargetId) (text : List ℕ) → device_of text ≡ Some id → IsNameOf id text
unfolding device_of is_point
named id [] is = absurd cc
named id (c ∷ rest) is =
    let tests =
    taken (parts_of (c ∷ rest)) (c == 101) (nat_lt (position_or_len is_point (c ∷ rest)) (length (c ∷ rest))) (position_or_len is_point (c ∷ rest)) id is in
    let letter : c ≡ 101 = eqb-true c 101 tests.0 in
    let P : ℕ → Type 0 =
    λ c. (nat_lt (position_or_len is_point (c ∷ rest)) (length (c ∷ rest)) ≡ true) × (parts_of (c ∷ rest) (position_or_len is_point (c ∷ rest)) ≡ Some id) in
    let here : P 101 = subst P letter (tests.1, tests.2) in
    let Q : ℕ → Type 0 = λ c. IsNameOf id (c ∷ rest) in
    let inside : position_or_len is_point rest < length rest = grind (arith, here.0) in
    let parts = here.1 in
    let n : ℕ = position_or_len is_point rest in
    subst Q (sym letter) (named-rest id rest inside (rw (less n, more n) at parts))

named-back : (id : TargetId) (shelf slot : List ℕ) → number_of shelf 65534 ≡ Some id.major → number_of slot 254 ≡ Some id.minor
    → device_of (101 ∷ (shelf ++ 46 ∷ slot)) ≡ Some id
unfolding device_of is_point
named-back id shelf slot major minor =
    let at : position_or_len is_point (shelf ++ 46 ∷ slot) ≡ length shelf = past-digits shelf slot (digits-of shelf 65534 id.major major) in
    let long = length-append shelf (46 ∷ slot) in
    let inside : nat_lt (1 + length shelf) (suc (length (shelf ++ 46 ∷ slot))) ≡ true =
    lt-ltb (1 + length shelf) (suc (length (shelf ++ 46 ∷ slot))) (omega (arith, long)) in
    let front : take (length shelf) (shelf ++ 46 ∷ slot) ≡ shelf = take-append_seam shelf (46 ∷ slot) in
    let one : suc (length shelf) ≡ length shelf + 1 = omega arith in
    let back : drop (suc (length shelf)) (shelf ++ 46 ∷ slot) ≡ slot = rw one (drop-append-add shelf (46 ∷ slot) 1) in
    rw (at, inside, less (length shelf), more (length shelf), front, back, major, minor) refl

pub from-name : (id : TargetId) (text : List ℕ) → IsNameOf id text → device_of text ≡ Some id
from-name id text name =
    let P : List ℕ → Type 0 = λ t. device_of t ≡ Some id in
    subst P (sym name.text_is) (named-back id name.shelf name.slot name.major name.minor)
