-- A slot is as it was after an entry that says nothing of it.
use Rattle.std.proofs.Common.{ℕ, ◌≡◌, ◌≢◌, ◌⊎◌, inl, inr, Bool, true, false, not, List, ◌∷◌, Option, Some, refl, sym, ◌∙◌, arith}
use Rattle.std.proofs.lemmas.Option.{gets, slice_get_within}
use Rattle.std.proofs.lemmas.Grind.{common_steps}
use Rattle.std.specs.Prelude.{slice_get}
use Rattle.std.specs.List.{list_any}
use Rattle.aoe_base.specs.declared.address.TargetId.{TargetId}
use Rattle.aoe_disk.specs.declared.loss.Loss.{Loss}
use Rattle.aoe_lists.specs.Settings.{Settings}
use Rattle.aoe_shelf.specs.Slot.{ChangesAt}
use Rattle.aoe_shelf.proofs.SlotLemmas.{get-after, get-other, length-changed}
use Rattle.aoe_history.specs.declared.entry.Entry.{Entry}
use Rattle.aoe_history.specs.declared.entry.Entry.TheVariants.{Arrived, Armed, Crashed}
use Rattle.aoe_history.specs.declared.entry.Fate.{Fate}
use Rattle.aoe_history.specs.Setup.{is_slot, AreApart, SlotSetup}
use Rattle.aoe_history.specs.ShelfLaw.{stretch}
use Rattle.aoe_history.specs.Slots.{slot_after, state_after}
use Rattle.aoe_script.specs.declared.event.Which.{Which}
use Rattle.aoe_script.specs.declared.event.Which.TheVariants.{Store, Keep}
use Rattle.aoe_sim_shelves.specs.declared.shelf.Stops.{Stops}
use Rattle.aoe_sim_shelves.specs.Shelf.{is_apart, IsServing, IsStanding, SimShelf, Serves, Stands}
use Rattle.aoe_sim_shelves.proofs.Words.{Target}
use Rattle.aoe_initiator.proofs.ListLemmas.{get-there as there}

-- two histories say the same of a slot
pub record SaysSame (slot : SlotSetup) (h n : List Entry) : Type 0 where
  pub known : slot_after slot n ≡ slot_after slot h
  pub stretches : (which : Which) → stretch which slot n ≡ stretch which slot h

pub stands-still : {slot : SlotSetup} {h n : List Entry} {t : Target} → SaysSame slot h n → IsStanding slot h t → IsStanding slot n t
stands-still same k = record { station = k.station; under = rw same.known k.under; holds = rw (same.known, state_after) k.holds }

pub serves-still : {slot : SlotSetup} {h n : List Entry} {t : Target} {stops : Stops} → SaysSame slot h n → IsServing slot h t stops → IsServing slot n t stops
serves-still same k = record {
  station = k.station;
  under = rw same.known k.under;
  holds = rw (same.known, state_after) k.holds;
  store_due = rw (same.stretches Store) k.store_due;
  keep_due = rw (same.stretches Keep) k.keep_due;
  store_stop = rw (same.stretches Store) k.store_stop;
  keep_stop = rw (same.stretches Keep) k.keep_stop;
}

pub serving-stands : {slot : SlotSetup} {h : List Entry} {t : Target} {stops : Stops} → IsServing slot h t stops → IsStanding slot h t
serving-stands k = record { station = k.station; under = k.under; holds = k.holds }

module _ (slot : SlotSetup) (h : List Entry) (dev : TargetId) (other : is_slot slot dev ≡ false) where
  pub says-arrived : (frame : ℕ) (fate : Fate) → SaysSame slot h (Arrived dev frame fate ∷ h)
  says-arrived frame fate = record { known = rw other; stretches = λ which. rw other }

  pub says-armed : (disk : Which) (k : ℕ) (mode : Option Loss) → SaysSame slot h (Armed dev disk k mode ∷ h)
  says-armed disk k mode = record { known = refl; stretches = λ which. rw other }

  pub says-crashed : (lists : Settings) (how : Loss) → SaysSame slot h (Crashed dev lists how ∷ h)
  says-crashed lists how = record { known = rw other; stretches = λ which. rw other }

not-any : (p : SlotSetup → Bool) (slots : List SlotSetup) (i : ℕ) (slot : SlotSetup) → not (list_any p slots) ≡ true → slice_get slots i ≡ Some slot
    → p slot ≡ false
not-any p slots i slot e at = grind (arith, common_steps, gets)

says-apart : (slots : List SlotSetup) (h : List Entry) (i : ℕ) (slot : SlotSetup) → slice_get slots i ≡ Some slot → (e : Entry) → is_apart slots e ≡ true
    → SaysSame slot h (e ∷ h)
says-apart slots h i slot at (Arrived dev frame fate) p = says-arrived slot h dev (not-any (λ x. is_slot x dev) slots i slot p at) frame fate
says-apart slots h i slot at (Armed dev which k mode) p = says-armed slot h dev (not-any (λ x. is_slot x dev) slots i slot p at) which k mode
says-apart slots h i slot at (Crashed dev lists how) p = says-crashed slot h dev (not-any (λ x. is_slot x dev) slots i slot p at) lists how
says-apart slots h i slot at _ p = record { known = refl; stretches = λ which. refl }

-- the disks of a shelf are what the history says after an entry that says nothing of its slots
pub serves-apart : (slots : List SlotSetup) (e : Entry) (h : List Entry) (x : SimShelf) → is_apart slots e ≡ true → Serves slots h x → Serves slots (e ∷ h) x
serves-apart slots e h x p k = record {
  count = k.count;
  stops = k.stops;
  each = λ i slot t stops a b c. serves-still (says-apart slots h i slot a e p) (k.each i slot t stops a b c);
}

pub serves-stands : (slots : List SlotSetup) (h : List Entry) (x : SimShelf) → Serves slots h x → Stands slots h x
serves-stands slots h x k = record {
  count = k.count;
  stops = k.stops;
  each = λ i slot t a b.
      let stops = there x.stops i (omega (arith, slice_get_within x.shelf.targets i t b, k.count, k.stops)) in
      serving-stands (k.each i slot t stops.0 a b stops.1);
}

-- ONE SLOT OF A SHELF CHANGES, by an entry that says nothing of the others

-- an element of a list in which one changed: it is the new one, or was there
pub changed-or : {X : Type 0} {i : ℕ} {Change : X → X → Type 0} {xs ys : List X} (c : ChangesAt i Change xs ys) (j : ℕ) (y : X) → slice_get ys j ≡ Some y
    → ((j ≡ i) × (y ≡ c.after)) ⊎ ((j ≢ i) × (slice_get xs j ≡ Some y))
changed-or {X} {i} {Change} {xs} {ys} c j y at =
    let here = get-after i Change xs ys c in
    let either : (j ≡ i) ⊎ (j ≢ i) = grind arith in
    elim either [ inl e ↦ inl (e, cc) | inr ne ↦ inr (ne, sym (get-other i Change xs ys c j ne) ∙ at) ]

module _ {slots : List SlotSetup} {h : List Entry} {i : ℕ} {slot : SlotSetup} {e : Entry} {x y : SimShelf}
    (apart : AreApart slots) (found : slice_get slots i ≡ Some slot)
    (says : (other : SlotSetup) → is_slot other slot.station.id ≡ false → SaysSame other h (e ∷ h))
    {Change : Target → Target → Type 0} (c : ChangesAt i Change x.shelf.targets y.shelf.targets) where
  pub stands-on : y.stops ≡ x.stops → Stands slots h x → IsStanding slot (e ∷ h) c.after → Stands slots (e ∷ h) y
  stands-on same k here = record {
    count = length-changed _ _ _ _ c ∙ k.count;
    stops = rw same k.stops;
    each = λ j other t a b. elim (changed-or c j t b) [
      | inl w ↦ let is : other ≡ slot = cc in rw (is, w.1) here
      | inr w ↦ stands-still (says other (apart j i other slot a found w.0)) (k.each j other t a w.1)
    ];
  }

  pub serves-on : {Stop : Stops → Stops → Type 0} (d : ChangesAt i Stop x.stops y.stops) → Serves slots h x → IsServing slot (e ∷ h) c.after d.after
      → Serves slots (e ∷ h) y
  serves-on d k here = record {
    count = length-changed _ _ _ _ c ∙ k.count;
    stops = length-changed _ _ _ _ d ∙ k.stops;
    each = λ j other t last a b s. elim (changed-or c j t b) [
      | inl w ↦ elim (changed-or d j last s) [
        | inl v ↦ let is : other ≡ slot = cc in rw (is, w.1, v.1) here
        | inr v ↦ absurd (v.0 w.0)
      ]
      | inr w ↦ elim (changed-or d j last s) [
        | inl v ↦ absurd (w.0 v.0)
        | inr v ↦ serves-still (says other (apart j i other slot a found w.0)) (k.each j other t last a w.1 v.1)
      ]
    ];
  }
