-- What a call of a shelf says of its slots.
use Rattle.std.proofs.Common.{◌≡◌, ◌≤◌, ◌<◌, ℕ, zero, suc, List, [], ◌∷◌, length, Some, Bool, true, false, refl, sym, ap, subst, ◌∙◌, arith}
use Rattle.std.proofs.Math.ListN.{set}
use Rattle.std.proofs.lemmas.List.{length-map, length-set}
use Rattle.std.proofs.lemmas.Option.{same_Some, slice_get-map, slice_get_within}
use Rattle.std.specs.Bool.{OnTrue}
use Rattle.std.specs.Option.{option_map}
use Rattle.std.specs.Prelude.{slice_get}
use Rattle.aoe_disk.specs.Calls.{IsRun}
use Rattle.aoe_disk.specs.State.{DiskState}
use Rattle.aoe_shelf.specs.Shelf.{ShelfTable}
use Rattle.aoe_shelf.specs.Slot.{ChangesAt}
use Rattle.aoe_target.specs.History.{is_cut, keep_failed, store_failed}
use Rattle.aoe_target.specs.Mounted.{Mounted}
use Rattle.aoe_target.specs.Receive.{Replaces, fate_of, is_faulty, is_unkept}
use Rattle.aoe_target.specs.Lasting.{TurnsFirm}
use Rattle.aoe_target.specs.Turn.{Receives}
use Rattle.aoe_target.specs.declared.heard.Heard.{Heard}
use Rattle.aoe_target.specs.declared.heard.Heard.TheVariants as heard
use Rattle.aoe_serve.specs.Answering.{MeetsAt}
use Rattle.aoe_serve.specs.Slots.{IsFrameLong, Meets, Slot, slot_of, slots_of}

-- One element of a list changes.

get_set_other : {X : Type 0} (xs : List X) (s i : ℕ) (y : X) → (i ≡ s → ⊥) → slice_get (set xs s y) i ≡ slice_get xs i
get_set_other [] s i y other = refl
get_set_other (x ∷ xs) zero zero y other = absurd (other refl)
get_set_other (x ∷ xs) zero (suc i) y other = refl
get_set_other (x ∷ xs) (suc s) zero y other = refl
get_set_other (x ∷ xs) (suc s) (suc i) y other = get_set_other xs s i y (λ e. other (ap suc e))

get_set_same : {X : Type 0} (xs : List X) (s : ℕ) (y : X) → s < length xs → slice_get (set xs s y) s ≡ Some y
get_set_same [] s y below = absurd (omega (arith, below))
get_set_same (x ∷ xs) zero y below = refl
get_set_same (x ∷ xs) (suc s) y below = get_set_same xs s y (omega (arith, below))

-- What became of the frame.

uncut : (h : Heard) (out : List ℕ) → is_cut (fate_of h out) ≡ false
uncut heard.Ignored out = refl
uncut heard.Silent out = refl
uncut (heard.Replied e) out = refl

store_failed_is : (h : Heard) (out : List ℕ) → store_failed (fate_of h out) ≡ is_faulty h
store_failed_is heard.Ignored out = refl
store_failed_is heard.Silent out = refl
store_failed_is (heard.Replied e) out = refl

keep_failed_is : (h : Heard) (out : List ℕ) → keep_failed (fate_of h out) ≡ is_unkept h
keep_failed_is heard.Ignored out = refl
keep_failed_is heard.Silent out = refl
keep_failed_is (heard.Replied e) out = refl

fits_frame : (h : Heard) (out : List ℕ) → length out ≤ 9018 → IsFrameLong (fate_of h out)
fits_frame heard.Ignored out few = tt
fits_frame heard.Silent out few = tt
fits_frame (heard.Replied e) out few = few

-- a disk that was called or left alone has as many faults as before, or more
called_later : (called failed : Bool) (old new : DiskState) → OnTrue called (IsRun 1 failed old new) → (called ≡ false → new ≡ old) → old.faults ≤ new.faults
called_later true failed old new run idle = run.later
called_later false failed old new run idle = let same : new.faults ≡ old.faults = ap (λ (d : DiskState). d.faults) (idle refl) in omega (arith, same)

replaced_later : (called failed : Bool) (old new : DiskState) → OnTrue called (Replaces failed old new) → (called ≡ false → new ≡ old) → old.faults ≤ new.faults
replaced_later true failed old new run idle = run.calls.later
replaced_later false failed old new run idle = let same : new.faults ≡ old.faults = ap (λ (d : DiskState). d.faults) (idle refl) in omega (arith, same)

module _ {S D : Type 0} (lasts : Bool) (store : S → DiskState) (keep : D → DiskState) (f : List ℕ) (h : Heard) (out : List ℕ)
    (few : length out ≤ 9018) where
  meets_from : (a b : Mounted S D) → Receives store keep a b f h out → TurnsFirm lasts store h out b
      → Meets (slot_of lasts store keep a) (slot_of lasts store keep b) f (fate_of h out)
  meets_from a b r firm = record {
    station = r.station;
    lasts = refl;
    firm = firm;
    step = r.step;
    uncut = uncut h out;
    fits = fits_frame h out few;
    store_later = called_later _ (is_faulty h) (store a.store) (store b.store) r.call (λ e. ap store (r.idle e));
    store_fault = λ e. r.fault (sym (store_failed_is h out) ∙ e);
    keep_later = replaced_later _ (is_unkept h) (keep a.keep.disk) (keep b.keep.disk) r.edit (λ e. ap (λ k. keep k.disk) (r.unedited e));
    keep_fault = λ e. r.edit_fault (sym (keep_failed_is h out) ∙ e);
  }

  -- a frame came to the slot, and the others are as they were
  pub meets_at : (slot : ℕ) (old new : List (Mounted S D)) → ChangesAt slot (λ a b. Receives store keep a b f h out) old new
      → ChangesAt slot (λ a b. TurnsFirm lasts store h out b) old new
      → MeetsAt slot (slots_of lasts store keep old) (slots_of lasts store keep new) f (fate_of h out)
  meets_at slot old new c d = record {
    count = length-map new (slot_of lasts store keep) ∙ ap length c.others ∙ length-set old slot c.after ∙ sym (length-map old (slot_of lasts store keep));
    meets = λ a b ea eb.
        let first : slot_of lasts store keep c.before ≡ a =
        same_Some (slot_of lasts store keep c.before) a
        (sym (slice_get-map (slot_of lasts store keep) old slot ∙ ap (option_map (slot_of lasts store keep)) c.found) ∙ ea) in
        let there : slice_get new slot ≡ Some c.after =
        ap (λ (l : List (Mounted S D)). slice_get l slot) c.others ∙ get_set_same old slot c.after (slice_get_within old slot c.before c.found) in
        let also : slice_get new slot ≡ Some d.after =
        ap (λ (l : List (Mounted S D)). slice_get l slot) d.others ∙ get_set_same old slot d.after (slice_get_within old slot d.before d.found) in
        let firm : TurnsFirm lasts store h out c.after =
        subst (λ (x : Mounted S D). TurnsFirm lasts store h out x) (same_Some d.after c.after (sym also ∙ there)) d.change in
        let second : slot_of lasts store keep c.after ≡ b =
        same_Some (slot_of lasts store keep c.after) b
        (sym (slice_get-map (slot_of lasts store keep) new slot ∙ ap (option_map (slot_of lasts store keep)) there) ∙ eb) in
        subst (λ (x : Slot). Meets x b f (fate_of h out)) first
        (subst (λ (x : Slot). Meets (slot_of lasts store keep c.before) x f (fate_of h out)) second (meets_from c.before c.after c.change firm));
    others = λ i other.
        slice_get-map (slot_of lasts store keep) new i
        ∙ ap (option_map (slot_of lasts store keep)) (ap (λ (l : List (Mounted S D)). slice_get l i) c.others ∙ get_set_other old slot i c.after other)
        ∙ sym (slice_get-map (slot_of lasts store keep) old i);
  }

-- the targets of a shelf change, and nothing else of it
pub rest_then : {S D : Type 0} (a b c : ShelfTable S D) → b ≡ record a { targets = b.targets } → c ≡ record b { targets = c.targets }
    → c ≡ record a { targets = c.targets }
rest_then a b c one two = two ∙ ap (λ (x : ShelfTable _ _). record x { targets = c.targets }) one

pub count_slots : {S D : Type 0} (lasts : Bool) (store : S → DiskState) (keep : D → DiskState) (targets : List (Mounted S D))
    → length (slots_of lasts store keep targets) ≡ length targets
count_slots lasts store keep targets = length-map targets (slot_of lasts store keep)
