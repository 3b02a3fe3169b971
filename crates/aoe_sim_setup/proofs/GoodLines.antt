-- What a setup line says in which nothing is wrong behind those before it, kind by kind.
use Rattle.std.proofs.Common.{ℕ, ◌<◌, ◌≤◌, ◌≡◌, Bool, true, false, List, length, take, Option, Some, None, refl, count_by, arith}
use Rattle.std.specs.Prelude.{slice_get, unwrap_or}
use Rattle.std.specs.List.{list_any}
use Rattle.std.proofs.lemmas.Bool.Decides.{nat_tests}
use Rattle.std.proofs.lemmas.Option.{MatchOption-at_some}
use Rattle.arrayvec.specs.ArrayVec.{ArrayVec}
use Rattle.aoe_base.specs.declared.address.Mac.{Mac}
use Rattle.aoe_base.specs.Addresses.{all_unique}
use Rattle.aoe_base.proofs.AddressLemmas.{all-distinct}
use Rattle.aoe_script.specs.declared.refusal.Why.{Why}
use Rattle.aoe_script.specs.declared.setup.Setup.{Setup as Line}
use Rattle.aoe_script.specs.declared.setup.Setup.TheVariants.{Life, Shelf, Slot, Host, Attach}
use Rattle.aoe_script.specs.Lines.{IsScript, ScriptLines}
use Rattle.aoe_script.specs.Rules.{are_ports, attaches, has_major, has_port, is_cache, is_host, is_host_named, is_limit, is_shelf, is_shelf_named, is_slot, is_slot_of, is_station_named, is_within, setup_why, unless}
use Rattle.aoe_sim_setup.specs.Stations.{ArePorts}

pub unless-none : (b : Bool) (why : Why) (rest : Option Why) → unless b why rest ≡ None → (b ≡ false) × (rest ≡ None)
unless-none true why rest e = absurd cc
unless-none false why rest e = (refl, e)

pub within : (least most n : ℕ) → is_within least most n ≡ true → (least ≤ n) × (n ≤ most)
within least most n e = grind (arith, nat_tests)

-- ---- kinds of lines

pub record GoodShelf (before : List Line) (name : ArrayVec ℕ) (major : ℕ) (ports : ArrayVec Mac) (mtu : ℕ) : Type 0 where
  pub ports_are : ArePorts ports.items
  pub number : major ≤ 65534
  pub least : 1500 ≤ mtu
  pub most : mtu ≤ 9000
  pub new_name : list_any (is_station_named name) before ≡ false
  pub new_ports : list_any (λ mac. list_any (has_port mac) before) ports.items ≡ false
  pub new_number : list_any (has_major major) before ≡ false
  pub few : count_by is_shelf before < 16

pub record GoodSlot (before : List Line) (shelf : ArrayVec ℕ) (minor sectors : ℕ) (room : Option ℕ) : Type 0 where
  pub number : minor ≤ 254
  pub least : 1 ≤ sectors
  pub most : sectors ≤ 65536
  pub cache : is_cache room ≡ true
  pub new : list_any (is_slot shelf minor) before ≡ false
  pub few : count_by (is_slot_of shelf) before < 16
  pub shelf_there : list_any (is_shelf_named shelf) before ≡ true

pub record GoodHost (before : List Line) (name : ArrayVec ℕ) (ports : ArrayVec Mac) (room dead : Option ℕ) : Type 0 where
  pub ports_are : ArePorts ports.items
  pub limit : is_limit room dead ≡ true
  pub new_name : list_any (is_station_named name) before ≡ false
  pub new_ports : list_any (λ mac. list_any (has_port mac) before) ports.items ≡ false
  pub few : count_by is_host before < 16

pub record GoodAttach (before : List Line) (host shelf : ArrayVec ℕ) (minor : ℕ) : Type 0 where
  pub new : list_any (attaches host shelf minor) before ≡ false
  pub host_there : list_any (is_host_named host) before ≡ true
  pub slot_there : list_any (is_slot shelf minor) before ≡ true

-- lifetimes that a line can have: its first number, and its second where it has one
pub record GoodLife (first : ℕ) (second : Option ℕ) : Type 0 where
  pub requests : first ≤ 600000
  pub responses : unwrap_or second first ≤ 600000

good-ports : (ports : ArrayVec Mac) → are_ports ports ≡ true → ArePorts ports.items
unfolding are_ports
good-ports ports e =
    let t : (1 ≤ length ports.items) × (length ports.items ≤ 4) × (all_unique ports.items ≡ true) = grind (arith, nat_tests) in
    record { some = t.0; few = t.1; distinct = all-distinct ports.items t.2 }

good-life : (before : List Line) (requests : ℕ) (responses : Option ℕ) → setup_why before false (Life requests responses) ≡ None
    → GoodLife requests responses
unfolding setup_why
good-life before requests None e = let low : requests ≤ 600000 = grind (arith, nat_tests) in record { requests = low; responses = low }
good-life before requests (Some responses) e = record { requests = grind (arith, nat_tests); responses = grind (arith, nat_tests) }

good-shelf : (before : List Line) (name : ArrayVec ℕ) (major : ℕ) (ports : ArrayVec Mac) (mtu : ℕ)
    → setup_why before false (Shelf name major ports mtu) ≡ None → GoodShelf before name major ports mtu
unfolding setup_why
good-shelf before name major ports mtu e = let p = good-ports ports (grind (arith, nat_tests)) in grind (arith, nat_tests)

good-slot : (before : List Line) (shelf : ArrayVec ℕ) (minor sectors : ℕ) (room : Option ℕ) → setup_why before false (Slot shelf minor sectors room) ≡ None
    → GoodSlot before shelf minor sectors room
unfolding setup_why
good-slot before shelf minor sectors room e = grind (arith, nat_tests)

good-host : (before : List Line) (name : ArrayVec ℕ) (ports : ArrayVec Mac) (room dead : Option ℕ) → setup_why before false (Host name ports room dead) ≡ None
    → GoodHost before name ports room dead
unfolding setup_why
good-host before name ports room dead e = let p = good-ports ports (grind (arith, nat_tests)) in grind (arith, nat_tests)

good-attach : (before : List Line) (host shelf : ArrayVec ℕ) (minor : ℕ) → setup_why before false (Attach host shelf minor) ≡ None
    → GoodAttach before host shelf minor
unfolding setup_why
good-attach before host shelf minor e = grind (arith, nat_tests)

-- ---- all lines

pub record AreGood (lines : List Line) : Type 0 where
  pub life : (k requests : ℕ) (responses : Option ℕ) → slice_get lines k ≡ Some (Life requests responses) → GoodLife requests responses
  pub shelf : (k : ℕ) (name : ArrayVec ℕ) (major : ℕ) (ports : ArrayVec Mac) (mtu : ℕ) → slice_get lines k ≡ Some (Shelf name major ports mtu)
      → GoodShelf (take k lines) name major ports mtu
  pub slot : (k : ℕ) (shelf : ArrayVec ℕ) (minor sectors : ℕ) (room : Option ℕ) → slice_get lines k ≡ Some (Slot shelf minor sectors room)
      → GoodSlot (take k lines) shelf minor sectors room
  pub host : (k : ℕ) (name : ArrayVec ℕ) (ports : ArrayVec Mac) (room dead : Option ℕ) → slice_get lines k ≡ Some (Host name ports room dead)
      → GoodHost (take k lines) name ports room dead
  pub attach : (k : ℕ) (host shelf : ArrayVec ℕ) (minor : ℕ) → slice_get lines k ≡ Some (Attach host shelf minor) → GoodAttach (take k lines) host shelf minor

pub are-good : (script : ScriptLines) → IsScript script → AreGood script.setups
are-good script is = record {
  life = λ k requests responses e. good-life _ requests responses (why k e);
  shelf = λ k name major ports mtu e. good-shelf _ name major ports mtu (why k e);
  slot = λ k shelf minor sectors room e. good-slot _ shelf minor sectors room (why k e);
  host = λ k name ports room dead e. good-host _ name ports room dead (why k e);
  attach = λ k host shelf minor e. good-attach _ host shelf minor (why k e);
}
  where
    why : (k : ℕ) {line : Line} → slice_get script.setups k ≡ Some line → setup_why (take k script.setups) false line ≡ None
    why k {line} e = MatchOption-at_some Unit (λ l. setup_why (take k script.setups) false l ≡ None) line e (is.setups k)
