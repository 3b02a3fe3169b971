-- What a table recalls of the paths after each event.
use Rattle.std.proofs.Common.{ℕ, zero, suc, ◌≡◌, ◌≢◌, ◌+◌, ◌*◌, ◌<◌, ◌≤◌, cond, Bool, true, false, List, [], ◌∷◌, length, map, set, replicate, get_or, Option, Some, None, refl, sym, ap, ◌∙◌, arith, nat_eq, zero-add}
use Rattle.std.specs.List.{range_with_len}
use Rattle.std.proofs.lemmas.Bool.{eq-eqb, ne_eqb}
use Rattle.std.proofs.lemmas.List.{get_or-map}
use Rattle.std.proofs.lemmas.List.FromFn.{get_or-range_with_len, length-range_with_len}
use Rattle.aoe_base.specs.declared.address.Mac.{Mac}
use Rattle.aoe_base.specs.declared.counted.Millis.{Millis}
use Rattle.aoe_paths.specs.Path.{after_trip}
use Rattle.aoe_paths.specs.PathLog.{is_marked, next_of, timeout_on, trips_on, PathEvent, Recalls}
use Rattle.aoe_paths.specs.PathLog.PathEvent.{Answered, Chosen, Missed}
use Rattle.aoe_paths.specs.PathTable.{after_answer, after_miss, new_paths, next_path, path_count, trips_of, PathTable}
use Rattle.aoe_paths.specs.Timeout.{last_trips, timeout_of}
use Rattle.aoe_paths.proofs.TimeoutLemmas.{last_trips-cons, timeout_of-last_trips}

-- ---- lists over the numbers of paths

same-counting : {X : Type 0} (f g : ℕ → X) (a n : ℕ) → ((q : ℕ) → a ≤ q → f q ≡ g q) → map f (range_with_len a n) ≡ map g (range_with_len a n)
same-counting f g a zero same = refl
same-counting f g a (suc n) same = rw (same a (omega arith), same-counting f g (a + 1) n (λ q above. same q (omega (arith, above)))) refl

-- a change at one number
set-counting : {X : Type 0} (f g : ℕ → X) (a n k p : ℕ) (x : X) → p ≡ a + k → ((q : ℕ) → q ≢ p → f q ≡ g q) → (k < n → g p ≡ x)
    → set (map f (range_with_len a n)) k x ≡ map g (range_with_len a n)
set-counting f g a zero k p x at same here = refl
set-counting f g a (suc n) zero p x at same here =
    let first : g a ≡ x = ap g (let is : a ≡ p = omega (arith, at) in is) ∙ here (omega arith) in
    rw (first, same-counting f g (a + 1) n (λ q above. same q (λ is. absurd (omega (arith, above, is, at))))) refl
set-counting f g a (suc n) (suc k) p x at same here =
    rw (same a (λ is. absurd (omega (arith, at, is))), set-counting f g (a + 1) n k p x (omega (arith, at)) same (λ inside. here (omega (arith, inside)))) refl

fresh-counting : {X : Type 0} (x : X) (a n : ℕ) → replicate n x ≡ map (λ q. x) (range_with_len a n)
fresh-counting x a zero = refl
fresh-counting x a (suc n) = ap (λ l. x ∷ l) (fresh-counting x (a + 1) n)

get-counting : {X : Type 0} (f : ℕ → X) (n p : ℕ) (d : X) → p < n → get_or (map f (range_with_len 0 n)) p d ≡ f p
get-counting f n p d inside =
    let long : p < length (range_with_len 0 n) = omega (arith, inside, length-range_with_len 0 n) in
    get_or-map f (range_with_len 0 n) p 0 d long ∙ ap f (get_or-range_with_len 0 n p 0 inside ∙ zero-add p)

-- ---- the events

pub recalls-new : (locals remotes : List Mac) → Recalls (new_paths locals remotes) []
recalls-new locals remotes = record {
  chosen = refl;
  marks = fresh-counting false 0 (length locals * length remotes);
  trips = fresh-counting [] 0 (length locals * length remotes);
}

pub recalls-chosen : (table : PathTable) (log : List PathEvent) (p : ℕ) → Recalls table log → Recalls (record table { chosen = Some p }) (Chosen p ∷ log)
recalls-chosen table log p r = record { chosen = refl; marks = r.marks; trips = r.trips }

pub next-recalled : (table : PathTable) (log : List PathEvent) → Recalls table log → next_path table.marks table.chosen ≡ next_of (path_count table) log
next-recalled table log r = rw (r.marks, r.chosen) refl

marked-others : (log : List PathEvent) (p : ℕ) (b : Bool) (q : ℕ) → q ≢ p → is_marked log q ≡ cond (nat_eq p q) b (is_marked log q)
marked-others log p b q other =
    let apart : nat_eq p q ≡ false = ne_eqb p q (λ same. other (sym same)) in
    rw apart refl

marked-here : (log : List PathEvent) (p : ℕ) (b : Bool) → cond (nat_eq p p) b (is_marked log p) ≡ b
marked-here log p b = let same : nat_eq p p ≡ true = eq-eqb p p refl in rw same refl

pub recalls-missed : (table : PathTable) (log : List PathEvent) (p : ℕ) → Recalls table log → Recalls (after_miss table p) (Missed p ∷ log)
recalls-missed table log p r = record {
  chosen = r.chosen;
  marks = ap (λ (l : List Bool). set l p true) r.marks
      ∙ set-counting (is_marked log) (is_marked (Missed p ∷ log)) 0 (path_count table) p p true (sym (zero-add p)) (marked-others log p true)
      (λ inside. marked-here log p true);
  trips = r.trips;
}

-- the trips of a path, as the table has them
trips-recalled : (table : PathTable) (log : List PathEvent) (p : ℕ) → Recalls table log → p < path_count table → trips_of table p ≡ last_trips (trips_on log p)
trips-recalled table log p r inside =
    ap (λ (l : List (List ℕ)). get_or l p []) r.trips ∙ get-counting (λ q. last_trips (trips_on log q)) (path_count table) p [] inside

pub timeout-recalled : (table : PathTable) (log : List PathEvent) (p : ℕ) → Recalls table log → p < path_count table
    → timeout_of (trips_of table p) ≡ timeout_on log p
timeout-recalled table log p r inside = ap timeout_of (trips-recalled table log p r inside) ∙ timeout_of-last_trips (trips_on log p)

trips-others : (log : List PathEvent) (p : ℕ) (trip : Option Millis) (q : ℕ) → q ≢ p
    → last_trips (trips_on log q) ≡ last_trips (trips_on (Answered p trip ∷ log) q)
trips-others log p None q other = refl
trips-others log p (Some trip) q other =
    let apart : nat_eq p q ≡ false = ne_eqb p q (λ same. other (sym same)) in
    rw apart refl

trips-here : (log : List PathEvent) (p : ℕ) (trip : Option Millis) (trips : List ℕ) → trips ≡ last_trips (trips_on log p)
    → last_trips (trips_on (Answered p trip ∷ log) p) ≡ after_trip trips trip
trips-here log p None trips is = sym is
trips-here log p (Some trip) trips is =
    let same : nat_eq p p ≡ true = eq-eqb p p refl in
    rw (same, is) (sym (last_trips-cons trip.0 (trips_on log p)))

pub recalls-answered : (table : PathTable) (log : List PathEvent) (p : ℕ) (trip : Option Millis) → Recalls table log
    → Recalls (after_answer table p trip) (Answered p trip ∷ log)
recalls-answered table log p trip r = record {
  chosen = r.chosen;
  marks = ap (λ (l : List Bool). set l p false) r.marks
      ∙ set-counting (is_marked log) (is_marked (Answered p trip ∷ log)) 0 (path_count table) p p false (sym (zero-add p)) (marked-others log p false)
      (λ inside. marked-here log p false);
  trips = ap (λ (l : List (List ℕ)). set l p (after_trip (trips_of table p) trip)) r.trips
      ∙ set-counting (λ q. last_trips (trips_on log q)) (λ q. last_trips (trips_on (Answered p trip ∷ log) q)) 0 (path_count table) p p
      (after_trip (trips_of table p) trip) (sym (zero-add p))
      (trips-others log p trip) (λ inside. trips-here log p trip (trips_of table p) (trips-recalled table log p r inside));
}
