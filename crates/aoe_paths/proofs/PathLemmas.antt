-- What one path is says what the lists of marks and of trips are.
use Rattle.std.proofs.Common.{ℕ, zero, suc, ◌≡◌, ◌<◌, List, [], ◌∷◌, length, map, set, replicate, get_or, Bool, false, Option, refl, sym, ap, ◌∙◌}
use Rattle.std.proofs.lemmas.List.{map-set, get_or-map}
use Rattle.std.proofs.Math.Seq.{map-set_same}
use Rattle.aoe_base.specs.declared.counted.Millis.{Millis}
use Rattle.aoe_paths.specs.Path.{PathState, after_trip, new_path}

pub marks-replicate : (n : ℕ) → map (λ path. path.missed) (replicate n new_path) ≡ replicate n false
marks-replicate zero = refl
marks-replicate (suc n) = ap (λ (marks : List Bool). false ∷ marks) (marks-replicate n)

pub trips-replicate : (n : ℕ) → map (λ path. path.trips) (replicate n new_path) ≡ replicate n []
trips-replicate zero = refl
trips-replicate (suc n) = ap (λ (trips : List (List ℕ)). [] ∷ trips) (trips-replicate n)

pub marks-set : (paths : List PathState) (p : ℕ) (path : PathState) → map (λ path. path.missed) (set paths p path)
    ≡ set (map (λ path. path.missed) paths) p path.missed
marks-set paths p path = map-set (λ (path : PathState). path.missed) paths p path

-- the trips of a path that was read
pub trips-read : (paths : List PathState) (p : ℕ) (old : PathState) → p < length paths → old ≡ get_or paths p old
    → get_or (map (λ path. path.trips) paths) p [] ≡ old.trips
trips-read paths p old inside read = get_or-map (λ (path : PathState). path.trips) paths p old [] inside ∙ sym (ap (λ (path : PathState). path.trips) read)

pub trips-answered : (paths : List PathState) (p : ℕ) (old : PathState) (trip : Option Millis) → p < length paths → old ≡ get_or paths p old
    → map (λ path. path.trips) (set paths p (record { missed = false; trips = after_trip old.trips trip }))
    ≡ set (map (λ path. path.trips) paths) p (after_trip (get_or (map (λ path. path.trips) paths) p []) trip)
trips-answered paths p old trip inside read =
    map-set (λ (path : PathState). path.trips) paths p (record { missed = false; trips = after_trip old.trips trip })
    ∙ sym (ap (λ (trips : List ℕ). set (map (λ (path : PathState). path.trips) paths) p (after_trip trips trip)) (trips-read paths p old inside read))

-- a path that is marked keeps its trips
pub trips-missed : (paths : List PathState) (p : ℕ) (old new : PathState) → old ≡ get_or paths p old → new.trips ≡ old.trips
    → map (λ path. path.trips) (set paths p new) ≡ map (λ path. path.trips) paths
trips-missed paths p old new read kept = map-set_same (λ (path : PathState). path.trips) paths p new old (kept ∙ ap (λ (path : PathState). path.trips) read)
