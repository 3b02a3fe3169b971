-- The words of a setup line say what it declares.
use Rattle.std.proofs.Common.{◌≡◌, ◌^◌, ◌<◌, ◌≤◌, ℕ, true, ◌&&◌, length, Option, Some, None, nat_le, refl, arith, lit<}
use Rattle.std.specs.Prelude.{All}
use Rattle.std.specs.List.{list_all}
use Rattle.std.proofs.lemmas.Bool.{and_parts}
use Rattle.std.proofs.lemmas.Bool.Decides.{nat_tests}
use Rattle.arrayvec.specs.ArrayVec.{ArrayVec}
use Rattle.aoe_base.specs.declared.address.Mac.{Mac}
use Rattle.aoe_base.specs.Addresses.{all_unique, is_individual}
use Rattle.aoe_script.specs.declared.line.Line.TheVariants.{Declares}
use Rattle.aoe_script.specs.declared.setup.Setup.{Setup}
use Rattle.aoe_script.specs.declared.setup.Setup.TheVariants.{Life, Shelf, Slot, Host, Attach, Readonly}
use Rattle.aoe_script.specs.Classes.{is_name}
use Rattle.aoe_script.specs.Forms.{said}
use Rattle.aoe_script.specs.Print.{setup_words}
use Rattle.aoe_script.specs.Rules.{are_ports, is_cache, is_lifetime, is_limit, is_setup, is_within}
use Rattle.aoe_script.specs.Types.{FitsSetup, IsAddress}
use Rattle.aoe_script.proofs.ListedLemmas.{AddressLaw, macs_word, ports_back}
use Rattle.aoe_script.proofs.NamedLemmas.{name_back, name_word}
use Rattle.aoe_script.proofs.SaidLemmas.{IsSaid, most_of, small_of}
use Rattle.aoe_script.proofs.WrittenLemmas.{number_is, number_word}

few_ports : (ports : ArrayVec Mac) → are_ports ports ≡ true → (0 < length ports.items) × (length ports.items ≤ 4)
unfolding are_ports
few_ports ports e =
    let h = and_parts (is_within 1 4 (length ports.items) && list_all is_individual ports.items) (all_unique ports.items) e in
    let g = (and_parts (is_within 1 4 (length ports.items)) (list_all is_individual ports.items) h.0).0 in
    (grind (arith, nat_tests), grind (arith, nat_tests))

module _ (law : AddressLaw) where
  shelf_is : (name : ArrayVec ℕ) (major : ℕ) (ports : ArrayVec Mac) (mtu : ℕ) → is_name name ≡ true → major < 2 ^ 64 → are_ports ports ≡ true → mtu < 2 ^ 64
      → All IsAddress ports.items
      → IsSaid (setup_words (Shelf name major ports mtu)) (Declares (Shelf name major ports mtu))
  unfolding said
  shelf_is name major ports mtu named high are low fits =
      rw (name_back name named, number_is major high, ports_back law ports.items (few_ports ports are).0 (few_ports ports are).1 fits, number_is mtu low)
      (rw (name_word name named, number_word major high, macs_word law ports.items (few_ports ports are).0 fits, number_word mtu low) refl)

  life_is : (requests : ℕ) (responses : Option ℕ) → requests < 2 ^ 64 → is_lifetime responses ≡ true
      → IsSaid (setup_words (Life requests responses)) (Declares (Life requests responses))
  unfolding said
  life_is requests None small fits = rw (number_is requests small, number_word requests small) refl
  life_is requests (Some responses) small fits =
      let low = small_of 600000 responses (lit< tt) fits in
      rw (number_is requests small, number_is responses low, number_word requests small, number_word responses low) refl

  slot_is : (shelf : ArrayVec ℕ) (minor sectors : ℕ) (room : Option ℕ) → is_name shelf ≡ true → minor < 2 ^ 64 → sectors < 2 ^ 64 → is_cache room ≡ true
      → IsSaid (setup_words (Slot shelf minor sectors room)) (Declares (Slot shelf minor sectors room))
  unfolding said
  slot_is shelf minor sectors None named low small cache =
      rw (name_back shelf named, number_is minor low, number_is sectors small, name_word shelf named, number_word minor low, number_word sectors small) refl
  slot_is shelf minor sectors (Some room) named low small cache =
      let high : room < 2 ^ 64 = most_of 1 65536 room (lit< tt) cache in
      rw (name_back shelf named, number_is minor low, number_is sectors small, number_is room high)
      (rw (name_word shelf named, number_word minor low, number_word sectors small, number_word room high) refl)

  host_is : (name : ArrayVec ℕ) (ports : ArrayVec Mac) (room dead : Option ℕ) → is_name name ≡ true → are_ports ports ≡ true → is_limit room dead ≡ true
      → All IsAddress ports.items
      → IsSaid (setup_words (Host name ports room dead)) (Declares (Host name ports room dead))
  unfolding said
  host_is name ports None None named are limit fits =
      rw (name_back name named, ports_back law ports.items (few_ports ports are).0 (few_ports ports are).1 fits)
      (rw (name_word name named, macs_word law ports.items (few_ports ports are).0 fits) refl)
  host_is name ports None (Some dead) named are limit fits = absurd cc
  host_is name ports (Some room) None named are limit fits = absurd cc
  host_is name ports (Some room) (Some dead) named are limit fits =
      let h = and_parts (is_within 1 16384 room) (is_within 1 10000000 dead) limit in
      let high = most_of 1 16384 room (lit< tt) h.0 in
      let low = most_of 1 10000000 dead (lit< tt) h.1 in
      rw (name_back name named, ports_back law ports.items (few_ports ports are).0 (few_ports ports are).1 fits, number_is room high, number_is dead low)
      (rw (name_word name named, macs_word law ports.items (few_ports ports are).0 fits, number_word room high, number_word dead low) refl)

  pub setup_is : (setup : Setup) → is_setup setup ≡ true → FitsSetup setup → IsSaid (setup_words setup) (Declares setup)
  unfolding said
  setup_is (Life requests responses) e fits =
      let h = and_parts (nat_le requests 600000) (is_lifetime responses) e in
      life_is requests responses (small_of 600000 requests (lit< tt) h.0) h.1
  setup_is (Shelf name major ports mtu) e fits =
      let h = and_parts (is_name name && nat_le major 65534 && are_ports ports) (is_within 1500 9000 mtu) e in
      let g = and_parts (is_name name && nat_le major 65534) (are_ports ports) h.0 in
      let f = and_parts (is_name name) (nat_le major 65534) g.0 in
      shelf_is name major ports mtu f.0 (small_of 65534 major (lit< tt) f.1) g.1 (most_of 1500 9000 mtu (lit< tt) h.1) fits
  setup_is (Slot shelf minor sectors room) e fits =
      let h = and_parts (is_name shelf && nat_le minor 254 && is_within 1 65536 sectors) (is_cache room) e in
      let g = and_parts (is_name shelf && nat_le minor 254) (is_within 1 65536 sectors) h.0 in
      let f = and_parts (is_name shelf) (nat_le minor 254) g.0 in
      slot_is shelf minor sectors room f.0 (small_of 254 minor (lit< tt) f.1) (most_of 1 65536 sectors (lit< tt) g.1) h.1
  setup_is (Host name ports room dead) e fits =
      let h = and_parts (is_name name && are_ports ports) (is_limit room dead) e in
      let g = and_parts (is_name name) (are_ports ports) h.0 in
      host_is name ports room dead g.0 g.1 h.1 fits
  setup_is (Attach host shelf minor) e fits =
      let h = and_parts (is_name host && is_name shelf) (nat_le minor 254) e in
      let g = and_parts (is_name host) (is_name shelf) h.0 in
      let low = small_of 254 minor (lit< tt) h.1 in
      rw (name_back host g.0, name_back shelf g.1, number_is minor low, name_word host g.0, name_word shelf g.1, number_word minor low) refl
  setup_is (Readonly shelf minor) e fits =
      let h = and_parts (is_name shelf) (nat_le minor 254) e in
      let low = small_of 254 minor (lit< tt) h.1 in
      rw (name_back shelf h.0, number_is minor low, name_word shelf h.0, number_word minor low) refl
