-- Sectors of zeros, one after the other.
use Rattle.std.proofs.Common.{◌≡◌, ◌==◌, ◌≤◌, ◌<◌, ◌+◌, ◌-◌, ◌++◌, ℕ, Bool, List, false, length, min, not, true, take, drop, arith, rules, sym}
use Rattle.std.proofs.Math.Bool.{beq}
use Rattle.std.proofs.Math.Seq.{take-add}
use Rattle.std.proofs.lemmas.List.Folds.{list_all-append}
use Rattle.std.proofs.lemmas.List.{length-drop, take_min}
use Rattle.aoe_system.specs.Named.{are_zeros}

both_zeros : (xs ys : List ℕ) → are_zeros xs ≡ true → are_zeros ys ≡ true → are_zeros (xs ++ ys) ≡ true
both_zeros xs ys a b = rw (list_all-append (λ n. n == 0) xs ys, a, b) (search rules)

pub more_zeros : (xs : List ℕ) (n m : ℕ) → n ≤ m → are_zeros (take n xs) ≡ true → are_zeros (take (m - n) (drop n xs)) ≡ true → are_zeros (take m xs) ≡ true
more_zeros xs n m le a b =
    let e : m ≡ n + (m - n) = omega (arith, le) in
    rw (e, take-add n (m - n) xs) (both_zeros (take n xs) (take (m - n) (drop n xs)) a b)

next_sector : (xs : List ℕ) (n m : ℕ) → n ≤ length xs → m ≡ min (length xs) (n + 512) → take (m - n) (drop n xs) ≡ take 512 (drop n xs)
next_sector xs n m le e =
    let k : m - n ≡ min 512 (length (drop n xs)) = rw (length-drop n xs, e) (omega (arith, le)) in
    rw k (take_min 512 (drop n xs))

-- what differs from a kind is of the other
other_kind : (is_hole looked : Bool) → not (beq looked is_hole) ≡ true → looked ≡ not is_hole
other_kind true true h = absurd (search rules)
other_kind true false h = search rules
other_kind false true h = search rules
other_kind false false h = absurd (search rules)

pub other_sector : (xs : List ℕ) (n m : ℕ) (is_hole looked : Bool) → n < length xs → m ≡ min (length xs) (n + 512) → looked ≡ are_zeros (take (m - n) (drop n xs)) → not (beq looked is_hole) ≡ true
    → are_zeros (take 512 (drop n xs)) ≡ not is_hole
other_sector xs n m is_hole looked le e is h = rw (sym (next_sector xs n m (omega (arith, le)) e), sym is) (other_kind is_hole looked h)
