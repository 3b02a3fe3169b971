-- Where the stations with names stand.
use Rattle.std.proofs.Common.{ℕ, suc, ◌≡◌, Bool, true, false, List, [], ◌∷◌, Option, Some, refl, ap, arith, cond}
use Rattle.std.specs.Prelude.{find, option_map, slice_get, IfSome, IsSomeAnd}
use Rattle.arrayvec.specs.ArrayVec.{ArrayVec}
use Rattle.aoe_history.specs.Groups.{Station}
use Rattle.aoe_history.specs.Groups.Station.{Shelf as ShelfStation, Host as HostStation}
use Rattle.aoe_history.specs.Setup.{is_called, HostSetup, Setup}
use Rattle.aoe_script.specs.Rules.{same}
use Rattle.aoe_sim_setup.proofs.LineLemmas.{same-self}
use Rattle.aoe_sim_setup.specs.Layout.{Placed}
use Rattle.aoe_world.specs.declared.act.At.{At}
use Rattle.aoe_world.specs.declared.act.At.TheVariants as at
use Rattle.aoe_world.specs.declared.place.Place.{Place}
use Rattle.aoe_world.specs.declared.sim.Sim.{Sim}
use Rattle.aoe_world.specs.Acts.{name_at, station_at}
use Rattle.aoe_world.specs.Sim.{ArePlaces, IsAt, IsInside, IsReady}
use Rattle.aoe_world.proofs.HostActLemmas.{one-name}
use Rattle.aoe_initiator.proofs.ListLemmas.{get-there as there}

-- PLACES BY NAME

abbrev pub FoundAt : Setup → List ℕ → Option Placed → Option Place → Type 0
FoundAt s majors station place = IfSome station (λ (p : Placed). IsSomeAnd (option_map (λ (x : Place). x.at) place) (λ at. IsAt s majors at p.station))

-- the place with a name is that of the station with the name
pub found-place : (s : Setup) (majors : List ℕ) (name : ArrayVec ℕ) (stations : List Placed) (places : List Place) → ArePlaces s majors stations places
    → FoundAt s majors (find (λ (p : Placed). same p.name name) stations) (find (λ (x : Place). same x.name name) places)
found-place s majors name [] places are = tt
found-place s majors name (p ∷ stations) [] are = absurd (omega (arith, are.count))
found-place s majors name (p ∷ stations) (place ∷ places) are =
    let facts = are.each 0 p place refl refl in
    let rest = found-place s majors name stations places (record { count = omega (arith, are.count); each = λ i q x e f. are.each (suc i) q x e f }) in
    rw (ap (λ (n : ArrayVec ℕ). same n name) facts.0) (go (same p.name name) _ _ facts.2 rest)
  where
    go : (b : Bool) (o : Option Placed) (q : Option Place) → IsAt s majors place.at p.station → FoundAt s majors o q
        → FoundAt s majors (cond b (Some p) o) (cond b (Some place) q)
    go true o q at_is rest = at_is
    go false o q at_is rest = rest

-- STATIONS BY PLACE

-- the name of a host at a place is the name of that host
pub name-called : (s : Setup) (i : ℕ) (host : HostSetup) → slice_get s.hosts i ≡ Some host → is_called host (name_at s i) ≡ true
name-called s i host e = rw e (same-self record { items = host.name })

-- at each place stands a station
pub station-at-is : {s : Setup} {majors : List ℕ} {sim : Sim} → IsReady s majors sim → (place : At) → IsInside place sim
    → IsAt s majors place (station_at s majors place)
station-at-is {s} {majors} ready (at.Shelf i) inside = rw (there majors i (omega (arith, inside, ready.shelves_are.count))).1
station-at-is {s} ready (at.Host i) inside = let h = there s.hosts i (omega (arith, inside, ready.hosts_are.count)) in (h.0, h.1, name-called s i h.0 h.1)

-- and only one
pub station-only : (s : Setup) (majors : List ℕ) (place : At) (station : Station) → IsAt s majors place station → station_at s majors place ≡ station
station-only s majors (at.Shelf i) (ShelfStation major) e = rw e
station-only s majors (at.Host i) (HostStation name) (host, e, called) = ap HostStation (one-name host (name_at s i) name (name-called s i host e) called)
station-only s majors _ _ e = absurd e
