-- The timeout of a path by its greatest trip.
use Rattle.std.proofs.Common.{ℕ, zero, suc, get_or, ◌≡◌, ◌*◌, ◌^◌, ◌-◌, ◌<◌, ◌≤◌, List, [], ◌∷◌, length, min, max, refl, ap, ◌∙◌, arith}
use Rattle.std.specs.Prelude.{fold, All, Contains}
use Rattle.std.proofs.lemmas.List.{take_all, take-take}
use Rattle.std.proofs.lemmas.List.Elements.{All-head, All-tail}
use Rattle.aoe_paths.specs.Timeout.{greatest, last_trips, timeout_of}

-- no number of a list is above m: nor is the greatest of them and a
fold-max-le : (a m : ℕ) (xs : List ℕ) → a ≤ m → All (λ x. x ≤ m) xs → fold max a xs ≤ m
fold-max-le a m [] low all = low
fold-max-le a m (x ∷ xs) low all =
    let here : x ≤ m = All-head (λ y. y ≤ m) x xs all in
    fold-max-le (max a x) m xs (omega arith) (All-tail (λ y. y ≤ m) x xs all)

fold-max-start : (a : ℕ) (xs : List ℕ) → a ≤ fold max a xs
fold-max-start a [] = omega arith
fold-max-start a (x ∷ xs) = let rest = fold-max-start (max a x) xs in omega (arith, rest)

-- the greatest is at least each of them
fold-max-reach : (a : ℕ) (xs : List ℕ) (k d : ℕ) → k < length xs → get_or xs k d ≤ fold max a xs
fold-max-reach a [] k d inside = absurd (omega arith)
fold-max-reach a (x ∷ xs) zero d inside = let rest = fold-max-start (max a x) xs in omega (arith, rest)
fold-max-reach a (x ∷ xs) (suc k) d inside = fold-max-reach (max a x) xs k d (omega arith)

greatest-is : (m : ℕ) (xs : List ℕ) → All (λ x. x ≤ m) xs → Contains xs m → greatest xs ≡ m
greatest-is m xs all one =
    let below : greatest xs ≤ m = fold-max-le 0 m xs (omega arith) all in
    let reach : get_or xs one.0 m ≤ greatest xs = fold-max-reach 0 xs one.0 m one.1 in
    omega (arith, below, reach, one.2)

pub timeout-is : (trips : List ℕ) (m timeout clamped : ℕ) → length trips ≤ 8 → All (λ trip. trip ≤ m) trips → Contains trips m
    → timeout ≡ min (m * 4) (2 ^ 64 - 1) → clamped ≡ max 100 (min timeout 60000) → clamped ≡ timeout_of trips
timeout-is [] m timeout clamped few all one is clamp = absurd (omega (arith, one.1))
timeout-is (trip ∷ trips) m timeout clamped few all one is clamp =
    let kept : last_trips (trip ∷ trips) ≡ trip ∷ trips = take_all 8 (trip ∷ trips) few in
    let most : greatest (last_trips (trip ∷ trips)) ≡ m = ap greatest kept ∙ greatest-is m (trip ∷ trips) all one in
    rw most (omega (arith, is, clamp))

-- what came before the last eight trips is of no account
pub last_trips-cons : (trip : ℕ) (trips : List ℕ) → last_trips (trip ∷ last_trips trips) ≡ last_trips (trip ∷ trips)
last_trips-cons trip trips = ap (λ (earlier : List ℕ). trip ∷ earlier) (take-take 7 8 trips (omega arith))

pub timeout_of-last_trips : (trips : List ℕ) → timeout_of (last_trips trips) ≡ timeout_of trips
timeout_of-last_trips [] = refl
timeout_of-last_trips (trip ∷ trips) = ap (λ (kept : List ℕ). min 60000 (max 100 (4 * greatest kept))) (take-take 8 8 (trip ∷ trips) (omega arith))
