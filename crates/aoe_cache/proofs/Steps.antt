-- A write sector by sector, and how many sectors are held then.
use Rattle.std.proofs.Common.{◌≡◌, ◌≢◌, ◌≤◌, ◌+◌, ◌-◌, ◌*◌, ℕ, List, Some, None, length, take, drop, sym, arith, ◌∙◌, ap, inl, inr, length-drop}
use Rattle.std.proofs.lemmas.Bool.{cases_eq}
use Rattle.std.proofs.lemmas.List.{length-take-le}
use Rattle.aoe_disk.specs.State.{sector}
use Rattle.aoe_cache.specs.declared.place.HeldSector.{HeldSector}
use Rattle.aoe_cache.specs.Held.{IsAscending, count_below, held_for, with_written}
use Rattle.aoe_cache.proofs.Ascending.{ascending_written, count_absent, count_held, count_le, count_mono, count_range, held_written_above, held_written_below, held_written_inside, length-with_written, stands_at}
use Rattle.aoe_cache.proofs.Ordered.{ascending_same, written_other, written_same}

module _ (at : ℕ) (piece : List ℕ) (hs : List HeldSector) where
  -- more sectors make it no shorter
  pub length_written_more : (i n : ℕ) → IsAscending 0 hs → i ≤ n → length (with_written at i piece hs) ≤ length (with_written at n piece hs)
  length_written_more i n order le =
      let end : at + i + (n - i) ≡ at + n = omega (arith, le) in
      omega (
        arith,
        length-with_written at i piece hs,
        length-with_written at n piece hs,
        count_range 0 (at + i)
            (n - i) hs order,
        ap (λ (m : ℕ). count_below m hs) end,
        count_le (at + n) hs,
        le,
      )

  -- one more of them
  module _ (i : ℕ) (order : IsAscending 0 hs) (whole : 512 * (i + 1) ≤ length piece) where
    piece_sector : length (sector piece i) ≡ 512
    piece_sector = length-take-le 512 (drop (512 * i) piece) (omega (arith, whole, length-drop (512 * i) piece))

    enough : 512 * i ≤ length piece
    enough = omega (arith, whole)

    some_order : IsAscending 0 (with_written at i piece hs)
    some_order = ascending_written at i piece hs enough order

    held_other : (s : ℕ) → at + i ≢ s → held_for (with_written at i piece hs) s ≡ held_for (with_written at (i + 1) piece hs) s
    held_other s other =
        let below = held_written_below at i piece hs enough order s in
        let above = held_written_above at i piece hs enough order s in
        let inside = held_written_inside at i piece hs enough order (s - at) in
        grind (
          arith,
          below,
          above,
          inside,
          held_written_below at (i + 1) piece hs whole order s,
          held_written_above at (i + 1) piece hs whole order s,
          held_written_inside at (i + 1) piece hs whole order (s - at),
        )

    held_more : (s : ℕ) → held_for (with_written (at + i) 1 (sector piece i) (with_written at i piece hs)) s ≡ held_for (with_written at (i + 1) piece hs) s
    held_more s = elim (cases_eq (at + i) s) [
      | inl same ↦ rw (← same) (written_same (at + i) _ _ some_order piece_sector ∙ sym (held_written_inside at (i + 1) piece hs whole order i (omega arith)))
      | inr other ↦ written_other (at + i) _ _ some_order piece_sector s other ∙ held_other s other
    ]

    pub written_more : with_written (at + i) 1 (sector piece i) (with_written at i piece hs) ≡ with_written at (i + 1) piece hs
    written_more = ascending_same 0 _ _ (ascending_written (at + i) 1 _ _ (omega (arith, piece_sector)) some_order)
        (ascending_written at (i + 1) piece hs whole order) held_more

  -- the same as the code cuts the piece
  pub written_next : (i : ℕ) (held : List HeldSector) → IsAscending 0 hs → 512 * (i + 1) ≤ length piece → held ≡ with_written at i piece hs
      → with_written (at + i) 1 (take (512 * i + 512 - 512 * i) (drop (512 * i) piece)) held ≡ with_written at (i + 1) piece hs
  written_next i held order whole is =
      let size : 512 * i + 512 - 512 * i ≡ 512 = omega arith in
      rw (size, is) (written_more i order whole)

-- how many are held after a write of i sectors: one more than before, where the next isn't held yet
abbrev pub some_written : ℕ → ℕ → List HeldSector → ℕ
some_written at i hs = count_below at hs + i + (length hs - count_below (at + i) hs)

module _ (at : ℕ) (hs : List HeldSector) (order : IsAscending 0 hs) where
  pub some_none : some_written at 0 hs ≡ length hs
  some_none = let first : at + 0 ≡ at = omega arith in omega (arith, ap (λ (n : ℕ). count_below n hs) first, count_le at hs)

  pub some_absent : (i : ℕ) → held_for hs (at + i) ≡ None → some_written at (i + 1) hs ≡ some_written at i hs + 1
  some_absent i none =
      let next : at + (i + 1) ≡ at + i + 1 = omega arith in
      omega (arith, ap (λ (n : ℕ). count_below n hs) next, count_absent 0 (at + i) hs order none, count_le (at + i) hs)

  pub some_present : (i : ℕ) (b : List ℕ) → held_for hs (at + i) ≡ Some b → some_written at (i + 1) hs ≡ some_written at i hs
  some_present i b some =
      let next : at + (i + 1) ≡ at + i + 1 = omega arith in
      omega (arith, ap (λ (n : ℕ). count_below n hs) next, count_held (at + i) b 0 hs order some, stands_at (at + i) b 0 hs order some)

  -- no more than before and those that are written
  pub some_few : (n : ℕ) → some_written at n hs ≤ length hs + n
  some_few n = omega (arith, count_mono at (at + n) hs (omega arith), count_le (at + n) hs)
