-- A failed write to a store.
use Rattle.std.proofs.Common.{◌≡◌, ◌≤◌, ◌+◌, ◌-◌, ◌*◌, ◌/◌, ℕ, Bool, false, Option, Some, None, IfSome, Result, Ok, Err, List, length, drop, get_or, arith, ◌∙◌, ap, sym, inl, inr}
use Rattle.std.proofs.lemmas.Bool.{both_ways, cases_lt}
use Rattle.std.proofs.lemmas.List.{get_or-take, get_or-drop}
use Rattle.aoe_disk.specs.State.{Contents, DiskState, HasShape, BothTell, is_loose, sector, with_marks}
use Rattle.aoe_disk.specs.Calls.{IsRange, Spoils, SameOutside, Writes, WritesTo}
use Rattle.aoe_disk.specs.Sectors.{IsOutside, Touches}
use Rattle.aoe_disk.proofs.Pieces.{with_marks_outside, is_loose-with_marks_outside, is_loose-with_marks_inside}
use Rattle.aoe_disk.proofs.Touching.{sector_outside}
use Rattle.aoe_store.specs.Store.{MaySpoil, Stores, StoresTo}

-- a sector that isn't loose after a failed write to a disk is as it was
pub spoils_kept : (at n : ℕ) (old new : Contents) (sectors : ℕ) → HasShape sectors old → IsRange at n sectors → Spoils at n old new
    → (s : ℕ) → is_loose new.loose s ≡ false → (is_loose old.loose s ≡ false) × (sector new.bytes s ≡ sector old.bytes s)
spoils_kept at n old new sectors shape range spoils s kept = elim (cases_lt s at) [
  | inl below ↦ outside (inl below)
  | inr past ↦ elim (cases_lt s (at + n / 512)) [
    | inl inside ↦ absurd (both_ways (is_loose (with_marks old.loose at (n / 512)) s) unmarked
        (is_loose-with_marks_inside old.loose at (n / 512) fits s past inside))
    | inr above ↦ outside (inr above)
  ]
]
  where
    fits : at + n / 512 ≤ length old.loose
    fits = omega (arith, shape.marks, range.within)

    unmarked : is_loose (with_marks old.loose at (n / 512)) s ≡ false
    unmarked = sym (ap (λ (l : List Bool). is_loose l s) spoils.loose) ∙ kept

    same : SameOutside (512 * at) (512 * (n / 512)) old.bytes new.bytes
    same = rw range.whole spoils.bytes

    outside : IsOutside at (n / 512) s → (is_loose old.loose s ≡ false) × (sector new.bytes s ≡ sector old.bytes s)
    outside out = (sym (is_loose-with_marks_outside old.loose at (n / 512) fits s out) ∙ unmarked, sector_outside old.bytes new.bytes at (n / 512) s same out)

-- what a disk does when a write fails is what a store may do
pub spoils_may_spoil : (at n : ℕ) (old new : Contents) (sectors : ℕ) → HasShape sectors old → IsRange at n sectors → Spoils at n old new → MaySpoil at n old new
spoils_may_spoil at n old new sectors shape range spoils = record {
  bytes = spoils.bytes;
  loose = rw spoils.loose (with_marks_outside old.loose at (n / 512) (omega (arith, shape.marks, range.within)));
  kept = spoils_kept at n old new sectors shape range spoils;
  settled = spoils.settled;
  exact = λ _. spoils;
}

-- the marks outside a range in which alone two lists of marks differ
pub is_loose_outside : (old new : List Bool) (at n s : ℕ) → SameOutside at n old new → IsOutside at n s → is_loose new s ≡ is_loose old s
is_loose_outside old new at n s same (inl below) =
    sym (get_or-take at new s false below) ∙ ap (λ (l : List Bool). get_or l s false) same.before ∙ get_or-take at old s false below
is_loose_outside old new at n s same (inr above) =
    let from : at + n + (s - (at + n)) ≡ s = omega arith in
    let there : (l : List Bool) → get_or (drop (at + n) l) (s - (at + n)) false ≡ get_or l s false =
    λ l. get_or-drop (at + n) l (s - (at + n)) false ∙ ap (λ (i : ℕ). get_or l i false) from in
    sym (there new) ∙ ap (λ (l : List Bool). get_or l (s - (at + n)) false) same.after ∙ there old

-- a failed write touches its own sectors alone
pub may_spoil_touch : (at n : ℕ) (old new : Contents) (sectors : ℕ) → IsRange at n sectors → MaySpoil at n old new → Touches at (n / 512) old new
may_spoil_touch at n old new sectors range spoils =
    let same : SameOutside (512 * at) (512 * (n / 512)) old.bytes new.bytes = rw range.whole spoils.bytes in
    record {
      size = spoils.bytes.size;
      marks = spoils.loose.size;
      same = λ s out. sector_outside old.bytes new.bytes at (n / 512) s same out;
      kept = λ s out e. is_loose_outside old.loose new.loose at (n / 512) s spoils.loose out ∙ e;
    }

stores_contents : {T E : Type 0} (at : ℕ) (piece : List ℕ) (result : Result T E) (old new : Option Contents) (sectors : ℕ) → IfSome old (HasShape sectors)
    → IsRange at (length piece) sectors
    → BothTell (Writes at piece result) old new → BothTell (Stores at piece result) old new
stores_contents at piece r None None sectors shape range told = tt
stores_contents at piece r None (Some y) sectors shape range told = told
stores_contents at piece r (Some x) None sectors shape range told = told
stores_contents at piece (Ok v) (Some x) (Some y) sectors shape range told = told
stores_contents at piece (Err e) (Some x) (Some y) sectors shape range told = spoils_may_spoil at (length piece) x y sectors shape range told

-- a write to a disk is one to a store
pub writes_store : {T E : Type 0} (at : ℕ) (piece : List ℕ) (result : Result T E) (old new : DiskState) → IsRange at (length piece) old.sectors
    → WritesTo at piece result old new → StoresTo at piece result old new
writes_store at piece result old new range writes = record {
  call = writes.call;
  contents = stores_contents at piece result old.contents new.contents old.sectors writes.call.before.shape range writes.contents;
  log = writes.log;
}
