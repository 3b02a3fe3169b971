-- The stations of good lines, by their names and addresses.
use Rattle.std.proofs.Common.{ℕ, ◌<◌, ◌≡◌, ◌≢◌, inl, inr, true, false, List, take, Some, refl, sym, ap, arith}
use Rattle.std.specs.Prelude.{slice_get}
use Rattle.std.specs.List.{list_any}
use Rattle.std.proofs.lemmas.Bool.{both_ways, false_from_ne_true, or_cases, or_left}
use Rattle.std.proofs.lemmas.Option.{none-some, same_Some}
use Rattle.arrayvec.specs.ArrayVec.{ArrayVec}
use Rattle.aoe_base.specs.declared.address.Mac.{Mac}
use Rattle.aoe_base.specs.Addresses.{holds}
use Rattle.aoe_script.specs.declared.setup.Setup.{Setup as Line}
use Rattle.aoe_script.specs.declared.setup.Setup.TheVariants.{Shelf, Host}
use Rattle.aoe_script.specs.Rules.{is_station_named, same}
use Rattle.aoe_history.specs.Groups.Station.{Shelf as ShelfStation, Host as HostStation}
use Rattle.aoe_sim_setup.specs.Layout.{addresses_in, placed, station_named, stations_of, Placed}
use Rattle.aoe_sim_setup.specs.Stations.{HasStations, IsStation}
use Rattle.aoe_sim_setup.proofs.GoodLines.{AreGood}
use Rattle.aoe_sim_setup.proofs.LineLemmas.{one-line, same-is, same-self, HostLine, ShelfLine}
use Rattle.aoe_sim_setup.proofs.ListLemmas.{any-passes, find-by, filtered-at, in-order, none-before, ordered-filtered, Ordered}

-- the line of a station has its addresses and its name
ports-in : (line : Line) (p : Placed) → placed line ≡ Some p → addresses_in line ≡ p.ports
ports-in (Shelf name major ports mtu) p e = ap (λ z. z.ports) (same_Some _ p e)
ports-in (Host name ports room dead) p e = ap (λ z. z.ports) (same_Some _ p e)
ports-in _ p e = absurd (none-some p e)

name-in : (line : Line) (p : Placed) → placed line ≡ Some p → is_station_named p.name line ≡ true
name-in (Shelf name major ports mtu) p e = rw (← same_Some _ p e) (or_left _ _ (same-self name))
name-in (Host name ports room dead) p e = rw (← same_Some _ p e) (same-self name)
name-in _ p e = absurd (none-some p e)

station-in : (name : ArrayVec ℕ) (line : Line) → is_station_named name line ≡ true → (p : Placed) × (placed line ≡ Some p) × (p.name ≡ name)
station-in name (Shelf other major ports mtu) t = elim (or_cases (same other name) false t) [
  | inl is ↦ (record { name = other; ports = ports.items; station = ShelfStation major }, refl, same-is other name is)
  | inr never ↦ absurd cc
]
station-in name (Host other ports room dead) t = (record { name = other; ports = ports.items; station = HostStation other }, refl, same-is other name t)
station-in name _ t = absurd cc

module _ (lines : List Line) (good : AreGood lines) where
  new-name : (k : ℕ) (line : Line) (p : Placed) → slice_get lines k ≡ Some line → placed line ≡ Some p
      → list_any (is_station_named p.name) (take k lines) ≡ false
  new-name k (Shelf name major ports mtu) p e f = rw (← same_Some _ p f) (good.shelf k _ _ _ _ e).new_name
  new-name k (Host name ports room dead) p e f = rw (← same_Some _ p f) (good.host k _ _ _ _ e).new_name
  new-name k _ p e f = absurd (none-some p f)

  names-differ : Ordered (λ a b. a.name ≢ b.name) (stations_of lines)
  names-differ = ordered-filtered _ placed lines (λ i j a b lt p q c d x y s.
      both_ways _ (none-before (is_station_named d.name) lines i j a lt p (new-name j b d q y)) (rw s at (name-in a c x)))

  ports-differ : Ordered (λ a b. (port : Mac) → holds a.ports port ≡ true → holds b.ports port ≡ true → ⊥) (stations_of lines)
  ports-differ = ordered-filtered _ placed lines (λ i j a b lt p q c d x y port s t.
      let same-place = one-line lines good i j a b port p q (rw (ports-in a c x) s) (rw (ports-in b d y) t) in
      absurd (omega arith))

  -- it is found by its name
  pub found-station : (i : ℕ) (p : Placed) → slice_get (stations_of lines) i ≡ Some p → station_named lines p.name ≡ Some p
  found-station i p e = find-by (λ (a b : Placed). same a.name b.name) (stations_of lines) i p
      (λ j k a b lt s t. false_from_ne_true _ (λ is. names-differ j k a b lt s t (same-is a.name b.name is))) e (same-self p.name)

  pub has-stations : HasStations lines
  has-stations = record {
    found = found-station;
    names = λ i j a b p q ne. in-order i j ne (λ lt. names-differ i j a b lt p q) (λ lt s. names-differ j i b a lt q p (sym s));
    ports = λ i j a b port p q s t.
        let before : i < j → ⊥ = λ lt. ports-differ i j a b lt p q port s t in
        let behind : j < i → ⊥ = λ lt. ports-differ j i b a lt q p port t s in
        omega arith;
  }

  -- those of host lines and of shelf lines
  pub host-station : {name : ArrayVec ℕ} (x : HostLine lines name)
      → station_named lines name ≡ Some record { name = name; ports = x.ports.items; station = HostStation name }
  host-station x = let p = filtered-at placed lines x.at _ _ x.there refl in found-station p.at _ p.there

  pub shelf-station : {name : ArrayVec ℕ} (x : ShelfLine lines name)
      → station_named lines name ≡ Some record { name = name; ports = x.ports.items; station = ShelfStation x.major }
  shelf-station x = let p = filtered-at placed lines x.at _ _ x.there refl in found-station p.at _ p.there

  -- a station with this name
  pub station-called : (name : ArrayVec ℕ) → list_any (is_station_named name) lines ≡ true → IsStation lines name
  station-called name any =
      let s = any-passes (is_station_named name) lines any in
      let p = station-in name s.x s.holds in
      let at = filtered-at placed lines s.at s.x p.0 s.there p.1 in
      record { at = at.at; place = p.0; there = at.there; called = p.2; found = rw p.2 at (found-station at.at p.0 at.there) }
