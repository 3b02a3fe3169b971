-- The last target of a shelf, and those before it.
use Rattle.std.proofs.Common.{◌≡◌, ◌≢◌, ◌<◌, ◌⊎◌, ◌||◌, ◌==◌, inl, inr, ℕ, suc, false, List, [], ◌∷◌, ◌++◌, length, replicate, take, Some, refl, sym, ◌∙◌, arith}
use Rattle.std.specs.Prelude.{slice_get}
use Rattle.std.proofs.lemmas.Bool.Decides.{nat_tests}
use Rattle.std.proofs.lemmas.Grind.{common_steps}
use Rattle.std.proofs.lemmas.Option.{gets, slice_get_within}
use Rattle.aoe_disk.specs.declared.loss.Loss.{Loss}
use Rattle.aoe_shelf.specs.Shelf.{has_minor}
use Rattle.aoe_sim_shelves.specs.Crash.{RestartEach, Restarts}
use Rattle.aoe_sim_shelves.specs.Shelf.{AreTargets, IsTargetOf}
use Rattle.aoe_sim_shelves.proofs.CrashLemmas.{restarted_target}
use Rattle.aoe_sim_shelves.proofs.Words.{stations, Shelf, Target}
use Rattle.aoe_initiator.proofs.ListLemmas.{get-there as there}

-- THE FRONT OF A LIST

module _ {X : Type 0} (xs : List X) (y : X) where
  pub get_last : slice_get (xs ++ y ∷ []) (length xs) ≡ Some y
  get_last = grind (arith, common_steps, gets)

  -- an element is one of the front, or the last one
  pub get_split : (i : ℕ) (x : X) → slice_get (xs ++ y ∷ []) i ≡ Some x → (slice_get xs i ≡ Some x) ⊎ ((i ≡ length xs) × (x ≡ y))
  get_split i x e = grind (arith, common_steps, gets)

  pub front_of : (i : ℕ) (x : X) → i < length xs → slice_get (xs ++ y ∷ []) i ≡ Some x → slice_get xs i ≡ Some x
  front_of i x low e = grind (arith, common_steps, gets)

  pub last_of : (i : ℕ) (x : X) → i ≡ length xs → slice_get (xs ++ y ∷ []) i ≡ Some x → x ≡ y
  last_of i x is e = grind (arith, common_steps, gets)

  pub length_last : length (xs ++ y ∷ []) ≡ suc (length xs)
  length_last = grind (arith, common_steps)

pub get_replicate : {X : Type 0} (n i : ℕ) (x y : X) → slice_get (replicate n x) i ≡ Some y → y ≡ x
get_replicate n i x y e = grind (arith, common_steps, gets)

pub get_take : {X : Type 0} (n : ℕ) (xs : List X) (i : ℕ) (x : X) → slice_get (take n xs) i ≡ Some x → slice_get xs i ≡ Some x
get_take n xs i x e = grind (arith, common_steps, gets)

-- MINORS

minor_other : (ts : List Target) (minor : ℕ) → ((i : ℕ) (t : Target) → slice_get ts i ≡ Some t → t.station.id.minor ≢ minor) → has_minor ts minor ≡ false
minor_other [] minor other = refl
minor_other (t ∷ ts) minor other =
    let here = other 0 t refl in
    let behind = minor_other ts minor (λ i u at. other (suc i) u at) in
    grind (arith, nat_tests)

minor_here : (ts : List Target) (minor i : ℕ) (t : Target) → has_minor ts minor ≡ false → slice_get ts i ≡ Some t → t.station.id.minor ≢ minor
minor_here ts minor i t e at = grind (arith, nat_tests, common_steps, gets)

-- the minors of a shelf with one target more
pub more_minors : (ts : List Target) (t : Target) (m : ℕ) → has_minor (ts ++ t ∷ []) m ≡ (has_minor ts m || t.station.id.minor == m)
more_minors ts t m = grind (arith, common_steps)

-- THE TARGETS OF A SHELF

module _ (shelf : Shelf) (front : List Target) (t : Target) (is : shelf.targets ≡ front ++ t ∷ []) (k : AreTargets shelf) where
  in_front : (i : ℕ) (u : Target) → slice_get front i ≡ Some u → slice_get shelf.targets i ≡ Some u
  in_front i u at = rw is (grind (arith, common_steps, gets))

  at_last : slice_get shelf.targets (length front) ≡ Some t
  at_last = rw is (get_last front t)

  pub last_target : IsTargetOf shelf.major shelf.ports shelf.mtu t
  last_target = k.each (length front) t at_last

  pub front_targets : AreTargets (record shelf { targets = front })
  front_targets = record {
    each = λ i u at. k.each i u (in_front i u at);
    apart = λ i j a b p q ne. k.apart i j a b (in_front i a p) (in_front j b q) ne;
  }

  -- those before the last one have other minors
  pub front_apart : (i : ℕ) (u : Target) → slice_get front i ≡ Some u → u.station.id.minor ≢ t.station.id.minor
  front_apart i u at = k.apart i (length front) u t (in_front i u at) at_last (λ e. omega (arith, slice_get_within front i u at))

-- one target more
pub more_targets : (shelf : Shelf) (t : Target) → AreTargets shelf → IsTargetOf shelf.major shelf.ports shelf.mtu t
    → has_minor shelf.targets t.station.id.minor ≡ false → AreTargets (record shelf { targets = shelf.targets ++ t ∷ [] })
more_targets shelf t k here other = record {
  each = λ i u at. elim (get_split shelf.targets t i u at) [ inl f ↦ k.each i u f | inr l ↦ rw l.1 here ];
  apart = λ i j a b p q ne. elim (get_split shelf.targets t i a p) [
    | inl f ↦ elim (get_split shelf.targets t j b q) [
      | inl g ↦ k.apart i j a b f g ne
      | inr m ↦ rw m.1 (minor_here shelf.targets t.station.id.minor i a other f)
    ]
    | inr l ↦ elim (get_split shelf.targets t j b q) [
      | inl g ↦ rw l.1 (λ e. minor_here shelf.targets t.station.id.minor j b other g (sym e))
      | inr m ↦ absurd (ne (l.0 ∙ sym m.0))
    ]
  ];
}

-- A RESTART

-- of a target, and of those before it
restart_more : {how : Loss} {xs ys : List Target} {x y : Target} → RestartEach how xs ys → Restarts how x y → RestartEach how (xs ++ x ∷ []) (ys ++ y ∷ [])
restart_more {how} {xs} {ys} {x} {y} r one = record {
  count = rw (length_last ys y, length_last xs x, r.count);
  each = λ i a b p q. elim (get_split xs x i a p) [
    | inl f ↦ r.each i a b f (front_of ys y i b (omega (arith, slice_get_within xs i a f, r.count)) q)
    | inr l ↦ rw (l.1, last_of ys y i b (omega (arith, l.0, r.count)) q) one
  ];
}

-- the last target was added again
pub restart_last : {how : Loss} {before front : List Target} {x y : Target} {new : Shelf} (r : Shelf) → before ≡ front ++ x ∷ []
    → new ≡ record r { targets = r.targets ++ y ∷ [] }
    → RestartEach how front r.targets → Restarts how x y → RestartEach how before new.targets
restart_last r is added each one = rw (is, added) (restart_more each one)

module _ {how : Loss} {xs ys : List Target} (r : RestartEach how xs ys) where
  -- the target of before
  pub was : (i : ℕ) (b : Target) → slice_get ys i ≡ Some b → (a : Target) × (slice_get xs i ≡ Some a) × Restarts how a b
  was i b at =
      let a = there xs i (omega (arith, slice_get_within ys i b at, r.count)) in
      (a.0, a.1, r.each i a.0 b a.1 at)

  -- no minor is new
  pub restart_minor : (minor : ℕ) → ((i : ℕ) (t : Target) → slice_get xs i ≡ Some t → t.station.id.minor ≢ minor) → has_minor ys minor ≡ false
  restart_minor minor other = minor_other ys minor (λ i b at. let a = was i b at in rw a.2.station (other i a.0 a.1))

-- the same targets, by their stations
pub same_stations : {how : Loss} (xs ys : List Target) → RestartEach how xs ys → stations ys ≡ stations xs
same_stations [] [] r = refl
same_stations (x ∷ xs) (y ∷ ys) r =
    rw ((r.each 0 x y refl refl).station, same_stations xs ys (record { count = omega (arith, r.count); each = λ i a b p q. r.each (suc i) a b p q }))
same_stations _ _ r = absurd (omega (arith, r.count))

-- and they are targets of the shelf still
pub restart_targets : {how : Loss} {shelf : Shelf} {ys : List Target} → AreTargets shelf → RestartEach how shelf.targets ys
    → AreTargets (record shelf { targets = ys })
restart_targets {how} {shelf} {ys} k r = record {
  each = λ i b at. let a = was r i b at in restarted_target a.2 (k.each i a.0 a.1);
  apart = λ i j b c p q ne.
      let a = was r i b p in
      let d = was r j c q in
      rw (a.2.station, d.2.station) (k.apart i j a.0 d.0 a.1 d.1 ne);
}
