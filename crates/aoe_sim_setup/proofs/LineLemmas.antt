-- What good lines say of one another.
use Rattle.std.proofs.Common.{ℕ, ◌<◌, ◌≡◌, ◌≢◌, ◌∙◌, ◌==◌, true, false, List, take, Option, Some, refl, sym, ap, arith}
use Rattle.std.specs.Prelude.{slice_get}
use Rattle.std.specs.List.{find, list_any}
use Rattle.std.proofs.lemmas.Bool.{and_from, and_parts, both_ways, eq-eqb, eqb-true, or_parts}
use Rattle.std.proofs.lemmas.Slice.Eq.{bytes_eq-Decides}
use Rattle.arrayvec.specs.ArrayVec.{ArrayVec}
use Rattle.aoe_base.specs.declared.address.Mac.{Mac}
use Rattle.aoe_base.specs.Addresses.{holds, same_address}
use Rattle.aoe_base.proofs.AddressLemmas.{same-address}
use Rattle.aoe_history.specs.Setup.{SlotSetup}
use Rattle.aoe_script.specs.declared.setup.Setup.{Setup as Line}
use Rattle.aoe_script.specs.declared.setup.Setup.TheVariants.{Life, Shelf, Slot, Host}
use Rattle.aoe_script.specs.Rules.{has_major, has_port, is_host_named, is_shelf_named, is_slot, is_station_named, same}
use Rattle.aoe_sim_setup.specs.Layout.{addresses_in, is_marked, slot_named, slot_with}
use Rattle.aoe_sim_setup.proofs.GoodLines.{AreGood}
use Rattle.aoe_sim_setup.proofs.ListLemmas.{any-passes, any-taken, find-first, in-order, none-before, none-passes, Place}

-- ---- names and addresses

pub same-is : (a b : ArrayVec ℕ) → same a b ≡ true → a ≡ b
same-is a b e = ap (λ (l : List ℕ). let v : ArrayVec ℕ = record { items = l } in v) ((bytes_eq-Decides a.items b.items).0 e)

pub same-self : (a : ArrayVec ℕ) → same a a ≡ true
same-self a = (bytes_eq-Decides a.items a.items).1 refl

pub held-at : (ports : List Mac) (port : Mac) → holds ports port ≡ true → Place ports port
held-at ports port e =
    let p = any-passes (λ b. same_address b port) ports e in
    record { at = p.at; there = p.there ∙ ap Some (same-address p.x port p.holds) }

pub port-in : (port : Mac) (line : Line) → has_port port line ≡ holds (addresses_in line) port
port-in port (Life requests responses) = refl
port-in port _ = refl

-- ---- lines by their places

pub record ShelfLine (lines : List Line) (name : ArrayVec ℕ) : Type 0 where
  pub at : ℕ
  pub major : ℕ
  pub ports : ArrayVec Mac
  pub mtu : ℕ
  pub there : slice_get lines at ≡ Some (Shelf name major ports mtu)

pub record HostLine (lines : List Line) (name : ArrayVec ℕ) : Type 0 where
  pub at : ℕ
  pub ports : ArrayVec Mac
  pub room : Option ℕ
  pub dead : Option ℕ
  pub there : slice_get lines at ≡ Some (Host name ports room dead)

-- a slot line with its shelf line
pub record SlotLine (lines : List Line) (name : ArrayVec ℕ) (minor : ℕ) : Type 0 where
  pub shelf : ShelfLine lines name
  pub at : ℕ
  pub sectors : ℕ
  pub room : Option ℕ
  pub there : slice_get lines at ≡ Some (Slot name minor sectors room)

-- and what both declare
abbrev pub slot_in : {lines : List Line} {name : ArrayVec ℕ} {minor : ℕ} → SlotLine lines name minor → SlotSetup
slot_in {lines} {name} {minor} x = slot_with x.shelf.major x.shelf.ports.items x.shelf.mtu minor x.sectors x.room (is_marked lines name minor)

-- ---- one line behind another

module _ (lines : List Line) (good : AreGood lines) where
  -- no two stations share an address
  new-ports : (k : ℕ) (line : Line) → slice_get lines k ≡ Some line → list_any (λ mac. list_any (has_port mac) (take k lines)) (addresses_in line) ≡ false
  new-ports k (Shelf name major ports mtu) e = (good.shelf k _ _ _ _ e).new_ports
  new-ports k (Host name ports room dead) e = (good.host k _ _ _ _ e).new_ports
  new-ports k _ e = refl

  ports-behind : (i k : ℕ) (a b : Line) (port : Mac) → i < k → slice_get lines i ≡ Some a → slice_get lines k ≡ Some b → holds (addresses_in a) port ≡ true
      → holds (addresses_in b) port ≡ true → ⊥
  ports-behind i k a b port lt p q x y =
      let at = held-at (addresses_in b) port y in
      let free = none-passes (λ mac. list_any (has_port mac) (take k lines)) (addresses_in b) at.at port (new-ports k b q) at.there in
      both_ways _ (none-before (has_port port) lines i k a lt p free) (port-in port a ∙ x)

  pub one-line : (i k : ℕ) (a b : Line) (port : Mac) → slice_get lines i ≡ Some a → slice_get lines k ≡ Some b → holds (addresses_in a) port ≡ true
      → holds (addresses_in b) port ≡ true → i ≡ k
  one-line i k a b port p q x y =
      let before : i < k → ⊥ = λ lt. ports-behind i k a b port lt p q x y in
      let behind : k < i → ⊥ = λ lt. ports-behind k i b a port lt q p y x in
      omega arith

  -- nor a name
  pub names-behind : (i k : ℕ) (a : Line) (name : ArrayVec ℕ) → i < k → slice_get lines i ≡ Some a → list_any (is_station_named name) (take k lines) ≡ false
      → (is_shelf_named name a ≡ false) × (is_host_named name a ≡ false)
  names-behind i k a name lt p none = or_parts _ _ (none-before (is_station_named name) lines i k a lt p none)

  pub shelf-before : (i k : ℕ) {m n : ℕ} {a b : ArrayVec ℕ} {p q : ArrayVec Mac} {x y : ℕ} → i < k → slice_get lines i ≡ Some (Shelf a m p x)
      → slice_get lines k ≡ Some (Shelf b n q y) → m ≢ n
  shelf-before i k {m} {n} lt s t e = both_ways _ (none-before (has_major n) lines i k _ lt s (good.shelf k _ _ _ _ t).new_number) (eq-eqb m n e)

  pub shelves-differ : (i k : ℕ) {m n : ℕ} {a b : ArrayVec ℕ} {p q : ArrayVec Mac} {x y : ℕ} → slice_get lines i ≡ Some (Shelf a m p x)
      → slice_get lines k ≡ Some (Shelf b n q y) → i ≢ k → m ≢ n
  shelves-differ i k s t ne = in-order i k ne (λ lt. shelf-before i k lt s t) (λ lt e. shelf-before k i lt t s (sym e))

  -- a shelf line is found by its name, and a slot line by its shelf and number
  pub shelf-found : {name : ArrayVec ℕ} (x : ShelfLine lines name) → find (is_shelf_named name) lines ≡ Some (Shelf name x.major x.ports x.mtu)
  shelf-found {name} x = find-first (is_shelf_named name) lines x.at _ x.there (same-self name)
      (λ i a lt s. (names-behind i x.at a name lt s (good.shelf x.at _ _ _ _ x.there).new_name).0)

  slot-found : {name : ArrayVec ℕ} {minor : ℕ} (x : SlotLine lines name minor) → find (is_slot name minor) lines ≡ Some (Slot name minor x.sectors x.room)
  slot-found {name} {minor} x = find-first (is_slot name minor) lines x.at _ x.there (and_from _ _ (eq-eqb minor minor refl) (same-self name))
      (λ i a lt s. none-before (is_slot name minor) lines i x.at a lt s (good.slot x.at _ _ _ _ x.there).new)

  pub slot-is : {name : ArrayVec ℕ} {minor : ℕ} (x : SlotLine lines name minor) → slot_named lines name minor ≡ Some (slot_in x)
  slot-is x = rw (shelf-found x.shelf, slot-found x)

  -- ---- lines that others say to be there

  pub shelf-there : (name : ArrayVec ℕ) → list_any (is_shelf_named name) lines ≡ true → ShelfLine lines name
  shelf-there name any = let s = any-passes (is_shelf_named name) lines any in go s.at s.x s.there s.holds
    where
      go : (k : ℕ) (line : Line) → slice_get lines k ≡ Some line → is_shelf_named name line ≡ true → ShelfLine lines name
      go k (Shelf other major ports mtu) e is = record { at = k; major = major; ports = ports; mtu = mtu; there = rw (same-is other name is) at e }
      go k _ e is = absurd cc

  pub host-before : (name : ArrayVec ℕ) (k : ℕ) → list_any (is_host_named name) (take k lines) ≡ true → HostLine lines name
  host-before name k any = let s = any-passes (is_host_named name) lines (any-taken (is_host_named name) lines k any) in go s.at s.x s.there s.holds
    where
      go : (k : ℕ) (line : Line) → slice_get lines k ≡ Some line → is_host_named name line ≡ true → HostLine lines name
      go k (Host other ports room dead) e is = record { at = k; ports = ports; room = room; dead = dead; there = rw (same-is other name is) at e }
      go k _ e is = absurd cc

  -- where a slot line is declared its shelf is
  pub slot-line : (name : ArrayVec ℕ) (minor : ℕ) → list_any (is_slot name minor) lines ≡ true → SlotLine lines name minor
  slot-line name minor any = let s = any-passes (is_slot name minor) lines any in go s.at s.x s.there s.holds
    where
      go : (k : ℕ) (line : Line) → slice_get lines k ≡ Some line → is_slot name minor line ≡ true → SlotLine lines name minor
      go k (Slot other number sectors room) e is =
          let p = and_parts (number == minor) (same other name) is in
          let there = rw (same-is other name p.1, eqb-true number minor p.0) at e in
          let shelf = shelf-there name (any-taken (is_shelf_named name) lines k (good.slot k _ _ _ _ there).shelf_there) in
          record { shelf = shelf; at = k; sectors = sectors; room = room; there = there }
      go k _ e is = absurd cc

  pub slot-before : (name : ArrayVec ℕ) (minor k : ℕ) → list_any (is_slot name minor) (take k lines) ≡ true → SlotLine lines name minor
  slot-before name minor k any = slot-line name minor (any-taken (is_slot name minor) lines k any)
