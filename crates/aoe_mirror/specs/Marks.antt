-- Marks of sectors, a bit each.
use Rattle.std.specs.Prelude.{◌≡◌, ◌⊎◌, ◌≤◌, ◌<◌, ◌+◌, ◌/◌, ◌%◌, ◌^◌, ◌==◌, ◌++◌, ℕ, suc, Bool, true, false, List, [], ◌∷◌, length, map, take, drop, replicate, slice_index}
use Rattle.std.specs.List.{range_with_len}
use Rattle.std.specs.Int.{bit_at}
use Rattle.aoe_disk.specs.State.{is_loose}

-- bit n of the words, counted from the lowest bit of the first
abbrev pub bit_of : List ℕ → ℕ → Bool
bit_of words n = bit_at (slice_index words (n / 64)) (n % 64) == 1

-- the first n bits of the words
unfoldable pub bits_of : List ℕ → ℕ → List Bool
bits_of words n = map (bit_of words) (range_with_len 0 n)

-- how many marks are set
unfoldable pub count_of : List Bool → ℕ
count_of [] = 0
count_of (true ∷ marks) = suc (count_of marks)
count_of (false ∷ marks) = count_of marks

-- the marks with n of them alike from sector at on
abbrev pub with_each : List Bool → ℕ → ℕ → Bool → List Bool
with_each marks at n value = take at marks ++ replicate n value ++ drop (at + n) marks

abbrev pub without_marks : List Bool → ℕ → ℕ → List Bool
without_marks marks at n = with_each marks at n false

-- no mark is set among n from sector at on
abbrev pub IsClear : List Bool → ℕ → ℕ → Type 0
IsClear marks at n = (s : ℕ) → at ≤ s → s < at + n → is_loose marks s ≡ false

-- n marks from sector at on are set: one at least, and 64 at most
pub record AreSet (marks : List Bool) (at n : ℕ) : Type 0 where
  pub some : 0 < n
  pub most : n ≤ 64
  pub within : at + n ≤ length marks
  pub set : (s : ℕ) → at ≤ s → s < at + n → is_loose marks s ≡ true

-- the first run of marks that are set from sector `from` on, of 64 at most: it is n sectors from sector at on, and as long as can be
pub record IsFirstRun (marks : List Bool) (from at n : ℕ) : Type 0 where
  pub run : AreSet marks at n
  pub low : from ≤ at
  pub first : (s : ℕ) → from ≤ s → s < at → is_loose marks s ≡ false
  pub longest : n < 64 → is_loose marks (at + n) ≡ false

-- the run that comes behind sector `from`, or where none is left there, the first of all
abbrev pub IsNextRun : List Bool → ℕ → ℕ → ℕ → Type 0
IsNextRun marks from at n = IsFirstRun marks from at n ⊎ (IsClear marks from (length marks) × IsFirstRun marks 0 at n)

-- what the fields of a set of marks keep: they take a bit for each mark, in whole words
pub record AreMarks (words : List ℕ) (len many from : ℕ) : Type 0 where
  pub bound : len ≤ 2 ^ 40
  pub room : length words ≡ (len + 63) / 64
  pub low : from ≤ len
  pub count : many ≡ count_of (bits_of words len)
  pub lowest : IsClear (bits_of words len) 0 from
