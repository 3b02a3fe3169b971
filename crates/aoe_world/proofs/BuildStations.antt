-- The stations that are built from the lines of a script.
use Rattle.std.proofs.Common.{ℕ, ◌+◌, ◌≡◌, ◌≤◌, ◌⊎◌, inl, inr, List, [], ◌∷◌, ◌++◌, length, Option, Some, None, refl, arith}
use Rattle.std.specs.Prelude.{slice_get, OnOk, Result, Ok, Err}
use Rattle.std.proofs.lemmas.List.{take_all}
use Rattle.arrayvec.specs.ArrayVec.{ArrayVec}
use Rattle.aoe_base.specs.declared.address.Mac.{Mac}
use Rattle.aoe_history.specs.Groups.{Station as station}
use Rattle.aoe_history.specs.Setup.{shelf_of, HostSetup, IsSetup}
use Rattle.aoe_sim_hosts.specs.Host.{IsSettled, SimHost}
use Rattle.aoe_sim_setup.specs.Layout.{host_in, host_of, major_in, majors_of, placed, setup_of, stations_of, Placed}
use Rattle.aoe_sim_setup.specs.Stations.{HasHosts, HasShelves}
use Rattle.aoe_sim_setup.proofs.LineLemmas.{same-self}
use Rattle.aoe_sim_shelves.specs.Shelf.{SimShelf, Serves}
use Rattle.aoe_script.specs.declared.setup.Setup.{Setup as Line}
use Rattle.aoe_script.specs.declared.setup.Setup.TheVariants.{Life, Shelf, Slot, Host, Attach, Readonly}
use Rattle.aoe_script.specs.Lines.{IsScript, ScriptLines}
use Rattle.aoe_world.proofs.BuildLists.{along-more, at-own, grown-none, grown-some}
use Rattle.aoe_world.specs.Build.{IsBuilt}
use Rattle.aoe_world.specs.declared.act.At.TheVariants as at
use Rattle.aoe_world.specs.declared.place.Place.{Place}
use Rattle.aoe_world.specs.declared.sim.Sim.{Sim}
use Rattle.aoe_world.specs.Sim.{ArePlaces, IsNetwork, IsReady}
use Rattle.aoe_world.specs.World.{IsStaged}

pub on-ok : {T E : Type 0} (r : Result T E) {A B P : Type 0} → OnOk r A → OnOk r B → (A → B → P) → OnOk r P
on-ok (Ok u) a b go = go a b
on-ok (Err e) a b go = tt

-- ---- one line more

module _ {lines : List Line} {n : ℕ} {line : Line} {sim : Sim} {places : List Place}
    (here : slice_get lines n ≡ Some line) (k : IsBuilt lines n sim places) where
  -- it declares no station
  built-on : major_in line ≡ None → host_in lines line ≡ None → placed line ≡ None → IsBuilt lines (n + 1) sim places
  built-on no-major no-host no-place = record {
    life = k.life;
    nothing = k.nothing;
    shelves_are = rw (grown-none major_in lines n line here no-major) k.shelves_are;
    hosts_are = rw (grown-none (host_in lines) lines n line here no-host) k.hosts_are;
    places_are = rw (grown-none placed lines n line here no-place) k.places_are;
  }

  pub built-past : ((x : ℕ) × (y : Option ℕ) × (line ≡ Life x y)) ⊎ (((x : ArrayVec ℕ) × (y : ℕ) × (z : ℕ) × (w : Option ℕ) × (line ≡ Slot x y z w))
      ⊎ (((x : ArrayVec ℕ) × (y : ArrayVec ℕ) × (z : ℕ) × (line ≡ Attach x y z)) ⊎ ((x : ArrayVec ℕ) × (y : ℕ) × (line ≡ Readonly x y))))
      → IsBuilt lines (n + 1) sim places
  built-past (inl (x, y, e)) = built-on (rw e) (rw e) (rw e)
  built-past (inr (inl (x, y, z, w, e))) = built-on (rw e) (rw e) (rw e)
  built-past (inr (inr (inl (x, y, z, e)))) = built-on (rw e) (rw e) (rw e)
  built-past (inr (inr (inr (x, y, e)))) = built-on (rw e) (rw e) (rw e)

  module _ {later : Sim} {there : List Place} (run : later.run ≡ sim.run) where
    pub built-shelf : {name : ArrayVec ℕ} {major : ℕ} {ports : ArrayVec Mac} {mtu : ℕ} {x : SimShelf} → line ≡ Shelf name major ports mtu
        → x.shelf.major ≡ major → Serves (shelf_of (setup_of lines) major) [] x
        → later.hosts ≡ sim.hosts → later.shelves.items ≡ sim.shelves.items ++ (x ∷ [])
        → there ≡ places ++ (record { name = name; ports = ports; at = at.Shelf (length sim.shelves.items) } ∷ []) → IsBuilt lines (n + 1) later there
    built-shelf {name} {major} {ports} is number serves hosts shelves more = record {
      life = rw run k.life;
      nothing = rw run k.nothing;
      shelves_are = rw (grown-some major_in lines n line major here (rw is), shelves) (along-more major _ (number, serves) k.shelves_are);
      hosts_are = rw (grown-none (host_in lines) lines n line here (rw is), hosts) k.hosts_are;
      places_are = rw (grown-some placed lines n line new here (rw is), more) (along-more new _ (refl, refl, stands) k.places_are);
    }
      where
        new : Placed
        new = record { name = name; ports = ports.items; station = station.Shelf major }

        stands : slice_get (majors_of lines) (length sim.shelves.items) ≡ Some major
        stands = rw k.shelves_are.count (at-own major_in lines n line major here (rw is))

    pub built-host : {name : ArrayVec ℕ} {ports : ArrayVec Mac} {room dead : Option ℕ} {x : SimHost} → line ≡ Host name ports room dead
        → IsSettled (setup_of lines) (host_of lines name ports.items room dead) [] x
        → later.shelves ≡ sim.shelves → later.hosts.items ≡ sim.hosts.items ++ (x ∷ [])
        → there ≡ places ++ (record { name = name; ports = ports; at = at.Host (length sim.hosts.items) } ∷ []) → IsBuilt lines (n + 1) later there
    built-host {name} {ports} {room} {dead} is settled shelves hosts more = record {
      life = rw run k.life;
      nothing = rw run k.nothing;
      shelves_are = rw (grown-none major_in lines n line here (rw is), shelves) k.shelves_are;
      hosts_are = rw (grown-some (host_in lines) lines n line host here (rw is), hosts) (along-more host _ settled k.hosts_are);
      places_are = rw (grown-some placed lines n line new here (rw is), more) (along-more new _ (refl, refl, (host, stands, same-self name)) k.places_are);
    }
      where
        host : HostSetup
        host = host_of lines name ports.items room dead

        new : Placed
        new = record { name = name; ports = ports.items; station = station.Host name }

        stands : slice_get (setup_of lines).hosts (length sim.hosts.items) ≡ Some host
        stands = rw k.hosts_are.count (at-own (host_in lines) lines n line host here (rw is))

-- ---- behind the last line

pub network : {lines : List Line} → IsSetup (setup_of lines) → HasHosts lines (setup_of lines) → HasShelves lines (setup_of lines)
    → IsNetwork (setup_of lines) (majors_of lines)
network setup hosts shelves = record { setup = setup; called = hosts.called; names = hosts.names; majors_differ = shelves.numbers; slots = shelves.by_number }

module _ {lines : List Line} {n : ℕ} {sim : Sim} {places : List Place} (end : length lines ≤ n) (k : IsBuilt lines n sim places) where
  pub built-ready : IsReady (setup_of lines) (majors_of lines) sim
  built-ready =
      let hosts = rw (take_all n lines end) at k.hosts_are in
      let shelves = rw (take_all n lines end) at k.shelves_are in
      record {
        life = k.life;
        lawful = rw k.nothing tt;
        hosts_are = rw k.nothing (record { count = hosts.count; each = hosts.each });
        shelves_are = rw k.nothing (record {
          count = shelves.count;
          number = λ i major x e f. (shelves.each i major x e f).0;
          each = λ i major x e f. (shelves.each i major x e f).1;
        });
      }

  pub built-places : ArePlaces (setup_of lines) (majors_of lines) (stations_of lines) places
  built-places = let along = rw (take_all n lines end) at k.places_are in record { count = along.count; each = along.each }

pub built-staged : {script : ScriptLines} {n : ℕ} {sim : Sim} {places : List Place} → IsScript script
    → IsNetwork (setup_of script.setups) (majors_of script.setups) → length script.setups ≤ n → IsBuilt script.setups n sim places
    → IsStaged script places sim 1
built-staged is net end k =
    record { good = is; network_is = net; places_are = built-places end k; from_one = omega arith; within = rw k.nothing (omega arith) }

-- the stations of the first n lines are built for a script
pub record IsBegun (script of : ScriptLines) (n : ℕ) (sim : Sim) (places : List Place) : Type 0 where
  pub same : of ≡ script
  pub built : IsBuilt script.setups n sim places
