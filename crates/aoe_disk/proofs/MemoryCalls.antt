-- The calls of a disk in memory, over its fields.
use Rattle.std.proofs.Common.{◌≡◌, ◌≤◌, ◌+◌, ◌*◌, ◌/◌, ℕ, Bool, true, false, Option, Some, None, Ok, Err, List, length, refl, arith, ◌∙◌, ap, sym, inl, inr, lit≤}
use Rattle.std.specs.Bool.{OnTrue}
use Rattle.std.proofs.lemmas.Bool.{cases_lt, both_ways}
use Rattle.aoe_base.specs.Faults.{Rose}
use Rattle.aoe_disk.specs.State.{IsDisk, IsSchedule, with_piece, with_marks, spoiled_sector, is_loose, sector}
use Rattle.aoe_disk.specs.Calls.{IsRange, IsRun, MovesOn, SameOutside, WritesTo}
use Rattle.aoe_disk.specs.Arming.{IsArmedBy, ArmsTo}
use Rattle.aoe_disk.specs.Sectors.{IsOutside}
use Rattle.aoe_disk.specs.Memory.{Memory, state_of, schedule_of, armed_of, IsArming, IsMemory}
use Rattle.aoe_disk.specs.declared.armed.Arm.{Arm}
use Rattle.aoe_disk.specs.declared.armed.Arm.TheVariants.{Fail, Stop}
use Rattle.aoe_disk.proofs.Pieces.{with_piece_outside, length-with_marks, is_loose-with_marks_outside, is_loose-with_marks_inside, length-spoiled_sector}
use Rattle.aoe_disk.proofs.Touching.{sector_outside}

abbrev pub memory : List ℕ → List ℕ → List Bool → Option Arm → Bool → ℕ → ℕ → Memory
memory bytes settled loose arming out faults calls =
    record { bytes = bytes; settled = settled; loose = loose; arming = arming; out = out; faults = faults; calls = calls }

arming_is_schedule : (arming : Option Arm) (out : Bool) → IsArming arming out → IsSchedule (schedule_of arming out)
arming_is_schedule None out h = record { number_in = λ _. h; from_one = tt }
arming_is_schedule (Some (Fail k)) out h = record { number_in = λ _. h.1; from_one = h.0 }
arming_is_schedule (Some (Stop k)) out h = record { number_in = λ e. cc; from_one = h }

memory_is_disk : (bytes settled : List ℕ) (loose : List Bool) (arming : Option Arm) (out : Bool) (faults calls : ℕ) → IsMemory bytes settled loose arming out
    → IsDisk (state_of (memory bytes settled loose arming out faults calls))
memory_is_disk bytes settled loose arming out faults calls m = record {
  bound = m.bound;
  shape = record { bytes = m.now; marks = refl; settled = m.settled };
  schedule = arming_is_schedule arming out m.arming;
}

module _ (b s : List ℕ) (l : List Bool) (a : Option Arm) (o : Bool) (f c : ℕ) (m : IsMemory b s l a o) (b' s' : List ℕ) (l' : List Bool) (a' : Option Arm)
    (o' : Bool) (f' c' : ℕ) (m' : IsMemory b' s' l' a' o') where
  pub memory_run : (failed : Bool) → length l' ≡ length l → f ≤ f' → OnTrue failed (Rose f f') → MovesOn 1 failed f f' (schedule_of a o) (schedule_of a' o')
      → IsRun 1 failed (state_of (memory b s l a o f c)) (state_of (memory b' s' l' a' o' f' c'))
  memory_run failed size later cause moves = record {
    before = memory_is_disk b s l a o f c m;
    after = memory_is_disk b' s' l' a' o' f' c' m';
    sectors = size;
    tells = refl;
    later = later;
    cause = cause;
    schedule = moves;
  }

-- a write, Ok or not, changes n sectors from at on and marks them
pub memory_written : (b b' s : List ℕ) (l : List Bool) (a : Option Arm) (o : Bool) (a' : Option Arm) (o' : Bool) (at n : ℕ) → IsMemory b s l a o
    → IsArming a' o' → at + n ≤ length l → SameOutside (512 * at) (512 * n) b b' → IsMemory b' s (with_marks l at n) a' o'
memory_written b b' s l a o a' o' at n m from_one fits same =
    let size = length-with_marks l at n fits in
    record {
      bound = omega (arith, size, m.bound);
      now = same.size ∙ m.now ∙ ap (λ (k : ℕ). 512 * k) (sym size);
      settled = m.settled ∙ ap (λ (k : ℕ). 512 * k) (sym size);
      agrees = λ t kept. elim (cases_lt t at) [
        | inl below ↦ agree t (inl below) kept
        | inr past ↦ elim (cases_lt t (at + n)) [
          | inl inside ↦ absurd (both_ways (is_loose (with_marks l at n) t) kept (is_loose-with_marks_inside l at n fits t past inside))
          | inr above ↦ agree t (inr above) kept
        ]
      ];
      arming = from_one;
    }
  where
    agree : (t : ℕ) → IsOutside at n t → is_loose (with_marks l at n) t ≡ false → sector s t ≡ sector b' t
    agree t out kept = m.agrees t (sym (is_loose-with_marks_outside l at n fits t out) ∙ kept) ∙ sym (sector_outside b b' at n t same out)

-- a write of a piece to a disk with these fields, after which the meter has others
module _ (b s : List ℕ) (l : List Bool) (a : Option Arm) (o : Bool) (m : IsMemory b s l a o) (at : ℕ) (piece : List ℕ)
    (range : IsRange at (length piece) (length l)) (a' : Option Arm) (o' : Bool) (from_one : IsArming a' o') where
  pub piece_fits : 512 * at + length piece ≤ length b
  piece_fits = omega (arith, range.whole, range.within, m.now)

  pub sector_fits : 512 * at + length spoiled_sector ≤ length b
  sector_fits = omega (arith, range.some, range.whole, range.within, m.now, length-spoiled_sector)

  pub memory_put : IsMemory (with_piece b (512 * at) piece) s (with_marks l at (length piece / 512)) a' o'
  memory_put = memory_written b (with_piece b (512 * at) piece) s l a o a' o' at (length piece / 512) m from_one range.within
      (with_piece_outside b (512 * at) piece piece_fits (512 * (length piece / 512)) (omega (arith, range.whole)))

  pub memory_spoiled : IsMemory (with_piece b (512 * at) spoiled_sector) s (with_marks l at (length piece / 512)) a' o'
  memory_spoiled = memory_written b (with_piece b (512 * at) spoiled_sector) s l a o a' o' at (length piece / 512) m from_one range.within
      (with_piece_outside b (512 * at) spoiled_sector sector_fits (512 * (length piece / 512)) (omega (arith, range.some, range.whole, length-spoiled_sector)))

  module _ (f c f' c' : ℕ) (later : f ≤ f') where
    pub memory_writes : {T E : Type 0} (r : T) → MovesOn 1 false f f' (schedule_of a o) (schedule_of a' o')
        → WritesTo {T = T} {E = E} at piece (Ok r) (state_of (memory b s l a o f c))
        (state_of (memory (with_piece b (512 * at) piece) s (with_marks l at (length piece / 512)) a' o' f' c'))
    memory_writes r moves = record {
      call = memory_run b s l a o f c m _ s _ a' o' f' c' memory_put false (length-with_marks l at (length piece / 512) range.within) later tt moves;
      contents = record { bytes = refl; loose = refl; settled = refl };
      log = refl;
    }

    pub memory_fails_to_write : {T E : Type 0} (e : E) → OnTrue true (Rose f f') → MovesOn 1 true f f' (schedule_of a o) (schedule_of a' o')
        → WritesTo {T = T} {E = E} at piece (Err e) (state_of (memory b s l a o f c))
        (state_of (memory (with_piece b (512 * at) spoiled_sector) s (with_marks l at (length piece / 512)) a' o' f' c'))
    memory_fails_to_write e cause moves = record {
      call = memory_run b s l a o f c m _ s _ a' o' f' c' memory_spoiled true (length-with_marks l at (length piece / 512) range.within) later cause moves;
      contents = record {
        bytes = with_piece_outside b (512 * at) spoiled_sector sector_fits (length piece) (omega (arith, range.some, range.whole, length-spoiled_sector));
        loose = refl;
        settled = refl;
        exact = λ _. refl;
      };
      log = refl;
    }

pub memory_armed : (m : Memory) (arm : Arm) → ArmsTo arm (state_of m) (state_of (record m { arming = Some arm; out = false }))
memory_armed m arm = record {
  sectors = refl;
  faults = refl;
  contents = refl;
  schedule = record { armed = armed arm; out = refl; due = refl };
  log = refl;
}
  where
    armed : (arm : Arm) → IsArmedBy arm (armed_of (Some arm))
    armed (Fail k) = lit≤ tt
    armed (Stop k) = refl
