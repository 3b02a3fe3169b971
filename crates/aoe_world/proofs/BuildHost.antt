-- A host that is built from the lines of a script.
use Rattle.std.proofs.Common.{ℕ, ◌+◌, ◌≡◌, ◌∙◌, ◌≤◌, false, List, [], ◌++◌, length, take, Option, Some, None, refl, sym, ap, arith, Contains}
use Rattle.std.specs.Prelude.{map, slice_get, unwrap_or, IfSome}
use Rattle.std.specs.List.{filter_map, find}
use Rattle.std.specs.Option.{option_to_list}
use Rattle.std.proofs.lemmas.Bool.{ne_eqb}
use Rattle.std.proofs.lemmas.List.Folds.{find_at, list_any_none}
use Rattle.std.proofs.lemmas.Option.{slice_get_within}
use Rattle.std.proofs.lemmas.List.{length-map, take_all}
use Rattle.arrayvec.specs.ArrayVec.{ArrayVec}
use Rattle.aoe_base.specs.declared.address.Mac.{Mac}
use Rattle.aoe_base.specs.declared.counted.Lifetimes.{Lifetimes}
use Rattle.aoe_history.specs.Setup.{host_called, HostSetup, IsSetup}
use Rattle.aoe_sim_hosts.proofs.AddressLemmas.{host-addresses, remote-addresses}
use Rattle.aoe_sim_hosts.proofs.Apart.{settled-new}
use Rattle.aoe_sim_hosts.specs.Host.{IsHost, IsSettled, SimHost}
use Rattle.aoe_initiator.specs.declared.device.Attached.{Attached}
use Rattle.aoe_initiator.specs.declared.device.Device.{Device}
use Rattle.aoe_initiator.specs.Host.{new_host, Matches}
use Rattle.aoe_initiator.specs.HostLaw.{has_id, same_id}
use Rattle.aoe_initiator.specs.HostLog.{Event}
use Rattle.aoe_initiator.specs.Defaults.{default_dead, default_room}
use Rattle.aoe_sim_setup.specs.Layout.{attached_to, devices_of, host_in, host_of, setup_of}
use Rattle.aoe_sim_setup.specs.Stations.{HasRanges, IsDevice, IsHost as HasWords}
use Rattle.aoe_sim_setup.proofs.GoodLines.{are-good}
use Rattle.aoe_sim_setup.proofs.HostLemmas.{has-hosts}
use Rattle.aoe_sim_setup.proofs.ListLemmas.{contains-at, filtered-at}
use Rattle.aoe_sim_setup.proofs.RangeLemmas.{has-ranges}
use Rattle.aoe_sim_setup.proofs.SetupLemmas.{is-setup}
use Rattle.aoe_script.specs.declared.setup.Setup.{Setup as Line}
use Rattle.aoe_script.specs.declared.setup.Setup.TheVariants.{Shelf, Slot, Host}
use Rattle.aoe_script.specs.Lines.{IsScript, ScriptLines}
use Rattle.aoe_script.specs.Rules.{is_shelf_named, is_slot}
use Rattle.aoe_world.proofs.BuildLists.{all-at, any-map, at-own, early, few-given, grown}
use Rattle.aoe_world.specs.Build.{CanAttach}

-- ---- numbers

module _ {script : ScriptLines} (is : IsScript script) where
  pub ranges : HasRanges (setup_of script.setups)
  ranges = has-ranges script.setups (are-good script is)

  pub shelf-words : {shelf : ArrayVec ℕ} {major : ℕ} {ports : ArrayVec Mac} {mtu : ℕ}
      → find (is_shelf_named shelf) script.setups ≡ Some (Shelf shelf major ports mtu) → (major ≤ 65534) × (1500 ≤ mtu) × (mtu ≤ 9000)
  shelf-words e = let g = (are-good script is).shelf _ _ _ _ _ (rw find_at at e) in (g.number, g.least, g.most)

  pub slot-words : {shelf : ArrayVec ℕ} {minor sectors : ℕ} {room : Option ℕ} → find (is_slot shelf minor) script.setups ≡ Some (Slot shelf minor sectors room)
      → minor ≤ 254
  slot-words e = ((are-good script is).slot _ _ _ _ _ (rw find_at at e)).number

-- ---- a host with the devices of the first n lines

abbrev pub known_of : SimHost → List Attached
known_of x = map (λ (d : Device). d.about) x.core.devices

pub record HostSoFar (lines : List Line) (name : ArrayVec ℕ) (ports : ArrayVec Mac) (life : Lifetimes) (room dead n : ℕ) (x : SimHost) : Type 0 where
  pub rest : x ≡ record { name = name; core = record (new_host ports.items life room dead) { devices = x.core.devices } }
  pub devices : known_of x ≡ filter_map (attached_to lines name) (take n lines)
  pub matches : Matches [] x.core

pub host-begun : {lines : List Line} {name : ArrayVec ℕ} {ports : ArrayVec Mac} {life : Lifetimes} {room dead : ℕ} {x : SimHost}
    → x ≡ record { name = name; core = new_host ports.items life room dead } → Matches [] x.core → HostSoFar lines name ports life room dead 0 x
host-begun e matches = record { rest = rw e; devices = rw e; matches = matches }

module _ {lines : List Line} {name : ArrayVec ℕ} {ports : ArrayVec Mac} {life : Lifetimes} {room dead n : ℕ} {line : Line} {x : SimHost}
    (at : slice_get lines n ≡ Some line) (k : HostSoFar lines name ports life room dead n x) where
  pub host-more : {y : SimHost} {known : Option Attached} → known ≡ attached_to lines name line → known_of y ≡ known_of x ++ option_to_list known
      → y ≡ record x { core = record x.core { devices = y.core.devices } } → ((log : List Event) → Matches log x.core → Matches log y.core)
      → HostSoFar lines name ports life room dead (n + 1) y
  host-more is devices rest matches = record {
    rest = rw k.rest at rest;
    devices = rw (devices, k.devices, is, grown (attached_to lines name) lines n line at);
    matches = matches [] k.matches;
  }

  -- where the host of these lines is as it should be, the device of the next one can be attached
  pub host-can : (host : HostSetup) (d : Attached) → HasWords (record host { devices = devices_of lines name }) → length lines ≤ 16777216
      → attached_to lines name line ≡ Some d → CanAttach d x.core.devices
  host-can host d words few is = record {
    distinct = device.remotes.distinct;
    total = omega (arith, device.size);
    some = device.some;
    most = device.max;
    few =
        omega (
          arith,
          length-map {A = Device} {B = Attached} x.core.devices (λ z. z.about),
          ap length k.devices,
          few-given (attached_to lines name) lines n,
          few,
        );
    allowed = rw (new, ne_eqb (length d.remotes.items) 0 (λ e. omega (arith, device.remotes.some, e)));
  }
    where
      before : List Attached
      before = filter_map (attached_to lines name) (take n lines)

      own : slice_get (devices_of lines name) (length (filter_map (attached_to lines name) (take n lines))) ≡ Some d
      own = at-own (attached_to lines name) lines n line d at is

      device : IsDevice d
      device = words.devices (length before) d own

      new : has_id d.id x.core.devices ≡ false
      new =
          rw (any-map (λ (z : Device). z.about) (λ (a : Attached). same_id a.id d.id) x.core.devices, k.devices)
          (list_any_none (λ (a : Attached). same_id a.id d.id) before (all-at _ before (λ j a e.
          let lt = slice_get_within before j a e in
          words.apart j (length before) a d (early (attached_to lines name) lines n j a e) own (λ same. omega (arith, lt, same)))))

-- ---- a host of a script

pub if-some : {X : Type 0} {P : X → Type 0} (o : Option X) → ((x : X) → o ≡ Some x → P x) → IfSome o P
if-some None each = tt
if-some (Some x) each = each x refl

module _ {script : ScriptLines} {name : ArrayVec ℕ} {ports : ArrayVec Mac} {room dead : Option ℕ} (is : IsScript script) (at : ℕ)
    (there : slice_get script.setups at ≡ Some (Host name ports room dead)) where
  pub words-of : HasWords (host_of script.setups name ports.items room dead)
  words-of =
      let p = filtered-at (host_in script.setups) script.setups at (Host name ports room dead) (host_of script.setups name ports.items room dead) there refl in
      (ranges is).hosts p.at _ p.there

  pub host-built : {n : ℕ} {x : SimHost} → length script.setups ≤ n
      → HostSoFar script.setups name ports (setup_of script.setups).life (unwrap_or room default_room) (unwrap_or dead default_dead) n x
      → IsSettled (setup_of script.setups) (host_of script.setups name ports.items room dead) [] x
  host-built {n} {x} end k =
      settled-new (setup_of script.setups) host x is-host (ap (λ (z : SimHost). z.core.clock) k.rest) (ap (λ (z : SimHost). z.core.last_ticket) k.rest)
      (ap (λ (z : SimHost). z.core.waiting) k.rest) k.matches
    where
      host : HostSetup
      host = host_of script.setups name ports.items room dead

      setup : IsSetup (setup_of script.setups)
      setup = is-setup script.setups (are-good script is) is.setups_fit

      inside : Contains (setup_of script.setups).hosts host
      inside =
          contains-at (setup_of script.setups).hosts host (filtered-at (host_in script.setups) script.setups at (Host name ports room dead) host there refl)

      is-host : IsHost (setup_of script.setups) host x
      is-host = record {
        called =
            ap (λ (z : SimHost). host_called (setup_of script.setups) z.name) k.rest
            ∙ (has-hosts script.setups (are-good script is)).line_called at name ports room dead there;
        ports = ap (λ (z : SimHost). z.core.ports) k.rest;
        life = ap (λ (z : SimHost). z.core.life) k.rest;
        room = ap (λ (z : SimHost). z.core.room) k.rest;
        dead = ap (λ (z : SimHost). z.core.dead) k.rest;
        devices = rw (take_all n script.setups end) at k.devices;
        distinct = words-of.ports.distinct;
        remotes = all-at _ host.devices (λ i d e. (words-of.devices i d e).remotes.distinct);
        addresses = host-addresses (setup_of script.setups) host setup inside;
        remote_addresses = remote-addresses (setup_of script.setups) host setup inside;
      }

  -- the device of the next line can be attached
  pub device-can : {n r t : ℕ} {life : Lifetimes} {line : Line} {x : SimHost} → slice_get script.setups n ≡ Some line
      → HostSoFar script.setups name ports life r t n x
      → (known : Option Attached) → known ≡ attached_to script.setups name line → IfSome known (λ d. CanAttach d x.core.devices)
  device-can here k known known-is =
      if-some known (λ d e. host-can here k (host_of script.setups name ports.items room dead) d words-of is.few_setups (sym known-is ∙ e))
