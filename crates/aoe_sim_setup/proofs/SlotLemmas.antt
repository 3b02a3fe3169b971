-- The slots that good lines declare.
use Rattle.std.proofs.Common.{Contains, ◌≢◌, ℕ, ◌≤◌, ◌≡◌, ◌∙◌, false, ◌==◌, List, length, Option, Some, nat_eq, refl, sym, ap, arith}
use Rattle.std.specs.Prelude.{slice_get}
use Rattle.std.specs.List.{filter_map}
use Rattle.std.proofs.lemmas.Bool.{and_from, and_left, and_parts, and_right, both_ways, eq-eqb, eqb-true, false_from_ne_true, ne_eqb}
use Rattle.std.proofs.lemmas.Option.{cond_some, none-some, same_Some}
use Rattle.arrayvec.specs.ArrayVec.{ArrayVec}
use Rattle.aoe_base.specs.declared.address.Mac.{Mac}
use Rattle.aoe_base.specs.declared.address.TargetId.{TargetId}
use Rattle.aoe_initiator.specs.HostLaw.{same_id}
use Rattle.aoe_initiator.proofs.ListLemmas.{Contains-filter}
use Rattle.aoe_initiator.proofs.NameLemmas.{same_id-refl}
use Rattle.aoe_history.specs.Setup.{is_slot, shelf_of, slot_of, AreSlots, SlotSetup}
use Rattle.aoe_script.specs.declared.setup.Setup.{Setup as Line}
use Rattle.aoe_script.specs.declared.setup.Setup.TheVariants.{Shelf, Slot}
use Rattle.aoe_script.specs.Rules.{is_shelf, is_slot as is_slot_line, is_slot_of, same}
use Rattle.aoe_sim_setup.specs.Layout.{is_marked, major_in, majors_of, setup_of, slot_of_shelf, slot_with, slots_of_shelf}
use Rattle.aoe_sim_setup.specs.Stations.{HasShelves}
use Rattle.aoe_sim_setup.proofs.GoodLines.{AreGood}
use Rattle.aoe_sim_setup.proofs.LineLemmas.{same-is, same-self, shelf-before, shelves-differ, slot_in, ShelfLine, SlotLine}
use Rattle.aoe_sim_setup.proofs.ListLemmas.{apart-by, contains-at, few-filtered, filter-piece, filtered-at, find-by, from-filtered, from-pieces, in-order, none-before, ordered-filtered, ordered-pieces, pieces-at, Ordered, Place}

-- a slot line, where its shelf has this name
record Declares (lines : List Line) (name : ArrayVec ℕ) (major : ℕ) (ports : List Mac) (mtu : ℕ) (line : Line) (slot : SlotSetup) : Type 0 where
  minor : ℕ
  sectors : ℕ
  room : Option ℕ
  line_is : line ≡ Slot name minor sectors room
  slot_is : slot_with major ports mtu minor sectors room (is_marked lines name minor) ≡ slot

declares : (lines : List Line) (name : ArrayVec ℕ) (major : ℕ) (ports : List Mac) (mtu : ℕ) (line : Line) (slot : SlotSetup)
    → slot_of_shelf lines name major ports mtu line ≡ Some slot → Declares lines name major ports mtu line slot
declares lines name major ports mtu (Slot shelf minor sectors room) slot e =
    let c = cond_some (same shelf name) (slot_with major ports mtu minor sectors room (is_marked lines name minor)) slot e in
    record { minor = minor; sectors = sectors; room = room; line_is = rw (same-is shelf name c.0); slot_is = c.1 }
declares lines name major ports mtu _ slot e = absurd (none-some slot e)

-- a shelf line with its number
record IsShelfLine (line : Line) (major : ℕ) : Type 0 where
  name : ArrayVec ℕ
  ports : ArrayVec Mac
  mtu : ℕ
  is : line ≡ Shelf name major ports mtu

shelf-line : (line : Line) (major : ℕ) → major_in line ≡ Some major → IsShelfLine line major
shelf-line (Shelf name number ports mtu) major e = record { name = name; ports = ports; mtu = mtu; is = rw (same_Some number major e) }
shelf-line _ major e = absurd (none-some major e)

-- a slot of the setup, by its two lines
pub record SlotFrom (lines : List Line) (slot : SlotSetup) : Type 0 where
  pub name : ArrayVec ℕ
  pub minor : ℕ
  pub line : SlotLine lines name minor
  pub slot_is : slot_in line ≡ slot

pub same-turn : (a b : TargetId) → same_id a b ≡ false → same_id b a ≡ false
same-turn a b e = false_from_ne_true _ (λ is.
    let p = and_parts (nat_eq b.major a.major) (nat_eq b.minor a.minor) is in
    both_ways _ e (and_from _ _ (eq-eqb a.major b.major (sym (eqb-true _ _ p.0))) (eq-eqb a.minor b.minor (sym (eqb-true _ _ p.1)))))

module _ (lines : List Line) (good : AreGood lines) where
  -- the slot of two lines stands in the setup
  pub slot-placed : {name : ArrayVec ℕ} {minor : ℕ} (x : SlotLine lines name minor) → Place (setup_of lines).slots (slot_in x)
  slot-placed {name} x = pieces-at (slots_of_shelf lines) lines x.shelf.at _ x.shelf.there
      (filtered-at (slot_of_shelf lines name x.shelf.major x.shelf.ports.items x.shelf.mtu) lines x.at _ (slot_in x) x.there (rw (same-self name)))

  -- and in its shelf
  pub slot-inside : {name : ArrayVec ℕ} {minor : ℕ} (x : SlotLine lines name minor) → Contains (shelf_of (setup_of lines) x.shelf.major) (slot_in x)
  slot-inside x = Contains-filter _ _ (slot_in x) (contains-at (setup_of lines).slots (slot_in x) (slot-placed x)) (eq-eqb x.shelf.major x.shelf.major refl)

  slot-of-line : (k : ℕ) (line : Line) (slot : SlotSetup) → slice_get lines k ≡ Some line → Place (slots_of_shelf lines line) slot
      → (x : SlotFrom lines slot) × (x.line.shelf.at ≡ k)
  slot-of-line k (Shelf name major ports mtu) slot there p =
      let f = from-filtered (slot_of_shelf lines name major ports.items mtu) lines p.at slot p.there in
      let d = declares lines name major ports.items mtu f.x slot f.holds in
      let shelf : ShelfLine lines name = record { at = k; major = major; ports = ports; mtu = mtu; there = there } in
      let line : SlotLine lines name d.minor = record { shelf = shelf; at = f.at; sectors = d.sectors; room = d.room; there = f.there ∙ ap Some d.line_is } in
      (record { name = name; minor = d.minor; line = line; slot_is = d.slot_is }, refl)
  slot-of-line k _ slot there p = absurd (none-some slot p.there)

  pub slot-from : (slot : SlotSetup) → Place (setup_of lines).slots slot → SlotFrom lines slot
  slot-from slot p = let m = from-pieces (slots_of_shelf lines) lines p in (slot-of-line m.at m.x slot m.there m.holds).0

  -- no two slots have one name
  of-shelf : (name : ArrayVec ℕ) (major : ℕ) (ports : List Mac) (mtu : ℕ)
      → Ordered (λ a b. is_slot a b.station.id ≡ false) (filter_map (slot_of_shelf lines name major ports mtu) lines)
  of-shelf name major ports mtu = ordered-filtered _ (slot_of_shelf lines name major ports mtu) lines (λ i j a b lt p q c d s t.
      let x = declares lines name major ports mtu a c s in
      let y = declares lines name major ports mtu b d t in
      let new = none-before (is_slot_line name y.minor) lines i j _ lt (p ∙ ap Some x.line_is) (good.slot j _ _ _ _ (q ∙ ap Some y.line_is)).new in
      let differ : (x.minor == y.minor) ≡ false = false_from_ne_true _ (λ is. both_ways _ new (and_from _ _ is (same-self name))) in
      rw (← x.slot_is, ← y.slot_is) (and_right (nat_eq major major) _ differ))

  pub slots-apart : Ordered (λ a b. is_slot a b.station.id ≡ false) (setup_of lines).slots
  slots-apart = ordered-pieces _ (slots_of_shelf lines) lines (λ k x e. each x) (λ i j a b lt p q c d s t.
      let x = slot-of-line i a c p s in
      let y = slot-of-line j b d q t in
      let ne = shelf-before lines good x.0.line.shelf.at y.0.line.shelf.at (omega arith) x.0.line.shelf.there y.0.line.shelf.there in
      rw (← x.0.slot_is, ← y.0.slot_is) (and_left _ _ (ne_eqb _ _ ne)))
    where
      each : (x : Line) → Ordered (λ a b. is_slot a b.station.id ≡ false) (slots_of_shelf lines x)
      each (Shelf name major ports mtu) = of-shelf name major ports.items mtu
      each _ = λ i j a b lt p q. absurd (none-some a p)

  pub slot-found : (slot : SlotSetup) → Place (setup_of lines).slots slot → slot_of (setup_of lines) slot.station.id ≡ Some slot
  slot-found slot p = find-by (λ a b. is_slot a b.station.id) (setup_of lines).slots p.at slot slots-apart p.there (same_id-refl slot.station.id)

  -- ---- shelves

  module _ (k : ℕ) (name : ArrayVec ℕ) (major : ℕ) (ports : ArrayVec Mac) (mtu : ℕ) (there : slice_get lines k ≡ Some (Shelf name major ports mtu)) where
    all-of-shelf : shelf_of (setup_of lines) major ≡ slots_of_shelf lines (Shelf name major ports mtu)
    all-of-shelf = filter-piece (λ slot. nat_eq slot.station.id.major major) (slots_of_shelf lines) lines k _ there
        (λ y p.
        let f = from-filtered (slot_of_shelf lines name major ports.items mtu) lines p.at y p.there in
        rw (← (declares lines name major ports.items mtu f.x y f.holds).slot_is) (eq-eqb major major refl))
        (λ i a y ne e p.
        let x = slot-of-line i a y e p in
        rw (← x.0.slot_is) (ne_eqb _ major (shelves-differ lines good x.0.line.shelf.at k x.0.line.shelf.there there (λ s. ne (sym x.1 ∙ s)))))

    slots-of-shelf : AreSlots (setup_of lines) (slots_of_shelf lines (Shelf name major ports mtu))
    slots-of-shelf = record {
      there = λ i slot e. slot-found slot (pieces-at (slots_of_shelf lines) lines k _ there (record { at = i; there = e }));
      apart = apart-by (λ (x y : SlotSetup). is_slot x y.station.id) _ (λ x y. same-turn x.station.id y.station.id) (of-shelf name major ports.items mtu);
    }

    few-of-shelf : length (slots_of_shelf lines (Shelf name major ports mtu)) ≤ 16
    few-of-shelf = few-filtered (slot_of_shelf lines name major ports.items mtu) (is_slot_of name) 16 lines (λ i line slot e g.
        let d = declares lines name major ports.items mtu line slot g in
        (rw d.line_is (same-self name), (good.slot i _ _ _ _ (e ∙ ap Some d.line_is)).few))

  -- ---- numbers of shelves

  numbers-differ : Ordered (λ m n. m ≢ n) (majors_of lines)
  numbers-differ = ordered-filtered _ major_in lines (λ i j a b lt p q m n x y.
      shelf-before lines good i j lt (p ∙ ap Some (shelf-line a m x).is) (q ∙ ap Some (shelf-line b n y).is))

  by-number : (i major : ℕ) → slice_get (majors_of lines) i ≡ Some major → AreSlots (setup_of lines) (shelf_of (setup_of lines) major)
  by-number i major e =
      let f = from-filtered major_in lines i major e in
      let x = shelf-line f.x major f.holds in
      let there = f.there ∙ ap Some x.is in
      rw (all-of-shelf f.at x.name major x.ports x.mtu there) (slots-of-shelf f.at x.name major x.ports x.mtu there)

  pub number-there : {name : ArrayVec ℕ} (x : ShelfLine lines name) → Contains (majors_of lines) x.major
  number-there x = contains-at (majors_of lines) x.major (filtered-at major_in lines x.at _ x.major x.there refl)

  few-shelves : length (majors_of lines) ≤ 16
  few-shelves =
      few-filtered major_in is_shelf 16 lines (λ i line m e g. let x = shelf-line line m g in (ap is_shelf x.is, (good.shelf i _ _ _ _ (e ∙ ap Some x.is)).few))

  pub has-shelves : HasShelves lines (setup_of lines)
  has-shelves = record {
    all = all-of-shelf;
    slots = slots-of-shelf;
    few = few-of-shelf;
    few_shelves = few-shelves;
    by_number = by-number;
    numbers = λ i j a b p q ne. in-order i j ne (λ lt. numbers-differ i j a b lt p q) (λ lt s. numbers-differ j i b a lt q p (sym s));
  }
