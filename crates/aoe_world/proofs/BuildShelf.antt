-- A shelf that is built from the lines of a script.
use Rattle.std.proofs.Common.{ℕ, ◌+◌, ◌≡◌, ◌≤◌, ◌==◌, Bool, true, false, if◌then◌else◌, ◌&&◌, ◌||◌, List, [], ◌∷◌, ◌++◌, length, take, Option, Some, None, refl, sym, arith}
use Rattle.std.specs.Prelude.{map, slice_get, option_map, IfSome}
use Rattle.std.specs.List.{cons_option, filter_map, list_any}
use Rattle.std.specs.Option.{option_to_list}
use Rattle.std.proofs.lemmas.Option.{slice_get_within}
use Rattle.std.proofs.lemmas.List.{map-append, take_all}
use Rattle.arrayvec.specs.ArrayVec.{ArrayVec}
use Rattle.std.proofs.Math.Bool.{and-true}
use Rattle.aoe_base.specs.declared.address.Mac.{Mac}
use Rattle.aoe_history.specs.Setup.{shelf_of, SlotSetup}
use Rattle.aoe_sim_setup.specs.Layout.{is_marked, setup_of, slot_of_shelf, slot_with}
use Rattle.aoe_sim_setup.specs.Stations.{IsCache}
use Rattle.aoe_sim_setup.proofs.GoodLines.{are-good}
use Rattle.aoe_sim_setup.proofs.RangeLemmas.{is-cache}
use Rattle.aoe_sim_setup.proofs.SlotLemmas.{has-shelves}
use Rattle.aoe_sim_shelves.specs.Shelf.{SimShelf, Serves}
use Rattle.aoe_script.specs.declared.setup.Setup.{Setup as Line}
use Rattle.aoe_script.specs.declared.setup.Setup.TheVariants.{Shelf, Slot}
use Rattle.aoe_script.specs.Lines.{IsScript, ScriptLines}
use Rattle.aoe_script.specs.Rules.{is_slot, same}
use Rattle.aoe_cache.specs.declared.any.AnyStore.{AnyStore}
use Rattle.aoe_disk.specs.Memory.{Memory}
use Rattle.aoe_target.specs.declared.station.Station.{Station}
use Rattle.aoe_target.specs.Mounted.{Mounted}
use Rattle.aoe_world.proofs.BuildLists.{any-map, at-own, grown}
use Rattle.aoe_world.specs.Build.{CanAdd}
use Rattle.aoe_world.specs.declared.build.NewSlot.{NewSlot}

abbrev pub stations_of_slots : List SlotSetup → List Station
stations_of_slots slots = map (λ (s : SlotSetup). s.station) slots

abbrev pub stations_of_shelf : SimShelf → List Station
stations_of_shelf x = map (λ (t : Mounted (AnyStore Memory) Memory). t.station) x.shelf.targets

-- a shelf with the slots of the first n lines
pub record ShelfSoFar (lines : List Line) (name : ArrayVec ℕ) (major : ℕ) (ports : ArrayVec Mac) (mtu n : ℕ) (x : SimShelf) : Type 0 where
  pub words : x.shelf ≡ record { major = major; ports = ports.items; mtu = mtu; targets = x.shelf.targets }
  pub stations : stations_of_shelf x ≡ stations_of_slots (filter_map (slot_of_shelf lines name major ports.items mtu) (take n lines))
  pub serves : Serves (filter_map (slot_of_shelf lines name major ports.items mtu) (take n lines)) [] x

-- the slot that a line declares, as one of this shelf
abbrev pub slot-given : SimShelf → Option NewSlot → Option SlotSetup
slot-given x slot = option_map (λ (z : NewSlot). slot_with x.shelf.major x.shelf.ports x.shelf.mtu z.minor z.sectors z.room z.read_only) slot

and-false : (b : Bool) → (b && false) ≡ false
and-false true = refl
and-false false = refl

abbrev has_minor : ℕ → SlotSetup → Bool
has_minor minor slot = slot.station.id.minor == minor

-- the minor of a slot is that of its line, whatever lines stand beside it
minors-are : (all : List Line) (name : ArrayVec ℕ) (major : ℕ) (ports : List Mac) (mtu minor : ℕ) (lines : List Line)
    → list_any (has_minor minor) (filter_map (slot_of_shelf all name major ports mtu) lines) ≡ list_any (is_slot name minor) lines
minors-are all name major ports mtu minor [] = refl
minors-are all name major ports mtu minor (Slot other number sectors room ∷ lines) =
    go (same other name) (is_marked all name number) _ (minors-are all name major ports mtu minor lines)
  where
    go : (b marked : Bool) (slots : List SlotSetup) → list_any (has_minor minor) slots ≡ list_any (is_slot name minor) lines
        → list_any (has_minor minor) (cons_option (if b then Some (slot_with major ports mtu number sectors room marked) else None) slots)
        ≡ (((number == minor) && b) || list_any (is_slot name minor) lines)
    go true marked slots more = rw (and-true (number == minor), more)
    go false marked slots more = rw (and-false (number == minor)) more
minors-are all name major ports mtu minor (line ∷ lines) = minors-are all name major ports mtu minor lines

pub shelf-begun : {lines : List Line} {name : ArrayVec ℕ} {major : ℕ} {ports : ArrayVec Mac} {mtu : ℕ} {x : SimShelf}
    → x ≡ record { shelf = record { major = major; ports = ports.items; mtu = mtu; targets = [] }; stops = [] } → Serves [] [] x
    → ShelfSoFar lines name major ports mtu 0 x
shelf-begun e serves = record { words = rw e; stations = rw e; serves = serves }

module _ {lines : List Line} {name : ArrayVec ℕ} {major : ℕ} {ports : ArrayVec Mac} {mtu n : ℕ} {line : Line} {x : SimShelf}
    (at : slice_get lines n ≡ Some line) (k : ShelfSoFar lines name major ports mtu n x) where
  pub shelf-more : (y : SimShelf) (given : Option SlotSetup) → slot_of_shelf lines name x.shelf.major x.shelf.ports x.shelf.mtu line ≡ given
      → ((before : List SlotSetup) → Serves before [] x → Serves (before ++ option_to_list given) [] y)
      → stations_of_shelf y ≡ stations_of_shelf x ++ stations_of_slots (option_to_list given)
      → y.shelf ≡ record x.shelf { targets = y.shelf.targets } → ShelfSoFar lines name major ports mtu (n + 1) y
  shelf-more y given is serves stations rest =
      let said : slot_of_shelf lines name major ports.items mtu line ≡ given = rw k.words at is in
      let more = grown (slot_of_shelf lines name major ports.items mtu) lines n line at in
      record {
        words = rw k.words at rest;
        stations = rw (stations, k.stations, more, said)
            (sym (map-append (λ (s : SlotSetup). s.station) (filter_map (slot_of_shelf lines name major ports.items mtu) (take n lines))
            (option_to_list given)));
        serves = rw (more, said) (serves _ k.serves);
      }

  shelf-can : (minor sectors : ℕ) (cache : Option ℕ) (marked : Bool) → minor ≤ 254 → sectors ≤ 65536 → IsCache cache
      → list_any (is_slot name minor) (take n lines) ≡ false
      → slot_of_shelf lines name major ports.items mtu line ≡ Some (slot_with major ports.items mtu minor sectors cache marked)
      → length (filter_map (slot_of_shelf lines name major ports.items mtu) lines) ≤ 16 → CanAdd minor sectors cache x
  shelf-can minor sectors cache marked number size room new is few =
      let before = filter_map (slot_of_shelf lines name major ports.items mtu) (take n lines) in
      let own = slice_get_within _ (length before) _ (at-own (slot_of_shelf lines name major ports.items mtu) lines n line _ at is) in
      record {
        number = omega (arith, number);
        size = omega (arith, size);
        cache = room;
        few = omega (arith, own, few, k.serves.count);
        other = rw (
          any-map (λ (t : Mounted (AnyStore Memory) Memory). t.station) (λ (z : Station). z.id.minor == minor) x.shelf.targets,
          k.stations,
          ← any-map (λ (s : SlotSetup). s.station) (λ (z : Station). z.id.minor == minor) before,
          minors-are lines name major ports.items mtu minor (take n lines),
        ) new;
      }

-- ---- a shelf of a script

module _ {script : ScriptLines} {name : ArrayVec ℕ} {major : ℕ} {ports : ArrayVec Mac} {mtu : ℕ} (is : IsScript script) (at : ℕ)
    (there : slice_get script.setups at ≡ Some (Shelf name major ports mtu)) where
  pub shelf-words : (major ≤ 65534) × (1 ≤ length ports.items) × (1500 ≤ mtu) × (mtu ≤ 9000)
  shelf-words = let good = (are-good script is).shelf at name major ports mtu there in (good.number, good.ports_are.some, good.least, good.most)

  -- the slot of the next line can be added
  pub slot-can : {n : ℕ} {line : Line} {x : SimShelf} → slice_get script.setups n ≡ Some line → ShelfSoFar script.setups name major ports mtu n x
      → (slot : Option NewSlot) → IfSome slot (λ z. line ≡ Slot name z.minor z.sectors z.room)
      → slot_of_shelf script.setups name major ports.items mtu line
      ≡ option_map (λ (z : NewSlot). slot_with major ports.items mtu z.minor z.sectors z.room z.read_only) slot
      → IfSome slot (λ z. CanAdd z.minor z.sectors z.room x)
  slot-can here k None line-is given = tt
  slot-can {n} here k (Some z) line-is given =
      let good = (are-good script is).slot n name z.minor z.sectors z.room (rw line-is at here) in
      shelf-can here k z.minor z.sectors z.room z.read_only good.number good.most (is-cache z.room good.cache) good.new given
      ((has-shelves script.setups (are-good script is)).few at name major ports mtu there)

  pub shelf-built : {n : ℕ} {x : SimShelf} → length script.setups ≤ n → ShelfSoFar script.setups name major ports mtu n x
      → Serves (shelf_of (setup_of script.setups) major) [] x
  shelf-built {n} end k =
      rw ((has-shelves script.setups (are-good script is)).all at name major ports mtu there) (rw (take_all n script.setups end) at k.serves)
