-- The parts of a block by its fields.
use Rattle.std.specs.Prelude.{ℕ, ◌≡◌, ◌+◌, ◌-◌, ◌*◌, ◌<◌, ◌≤◌, ◌^◌, ◌++◌, true, false, cond, List, [], ◌∷◌, length, take, drop, min}
use Rattle.aoe_base.specs.Sizes.{most_copied}
use Rattle.aoe_initiator.specs.declared.outcome.Outcome.{Outcome}
use Rattle.aoe_initiator.specs.declared.outcome.Outcome.TheVariants.{Read, Written, Flushed, Told, AtaError, AoeError, GaveUp}
use Rattle.aoe_block.specs.declared.stage.Stage.{Stage}
use Rattle.aoe_block.specs.declared.stage.Stage.TheVariants.{Pending}
use Rattle.aoe_block.specs.Parts.{Part}
use Rattle.aoe_block.specs.Stages.{is_ended, is_handed, is_pending, is_under_way, stage_at}

-- the parts of so many sectors from `at` on, by their stages and the bytes of all
abbrev pub parts_of : ℕ → ℕ → ℕ → List Stage → List ℕ → List Part
parts_of max at count [] bytes = []
parts_of max at count (stage ∷ stages) bytes =
    record { at = at; count = min max count; bytes = take (512 * max) bytes; stage = stage }
    ∷ parts_of max (at + max) (count - max) stages (drop (512 * max) bytes)

-- bytes in the place of those from `start` on
abbrev pub put : List ℕ → ℕ → List ℕ → List ℕ
put bytes start piece = take start bytes ++ piece ++ drop (start + length piece) bytes

-- the data of a read in the place of the bytes from `start` on
abbrev pub laid : List ℕ → ℕ → Outcome → List ℕ
laid bytes start (Read read) = put bytes start read
laid bytes start Written = bytes
laid bytes start Flushed = bytes
laid bytes start (Told args) = bytes
laid bytes start (AtaError status error) = bytes
laid bytes start (AoeError error) = bytes
laid bytes start (GaveUp first now) = bytes

-- the data of a read have their place
abbrev pub CanLay : List ℕ → ℕ → Outcome → Type 0
CanLay bytes start (Read read) = start + length read ≤ length bytes
CanLay bytes start Written = Unit {0}
CanLay bytes start Flushed = Unit {0}
CanLay bytes start (Told args) = Unit {0}
CanLay bytes start (AtaError status error) = Unit {0}
CanLay bytes start (AoeError error) = Unit {0}
CanLay bytes start (GaveUp first now) = Unit {0}

-- no part before the k-th is under way
abbrev pub NoneBefore : List Stage → ℕ → Type 0
NoneBefore stages k = (j : ℕ) → j < k → is_under_way (stage_at stages j) ≡ false

-- the parts from the k-th on weren't handed
abbrev pub PendingFrom : List Stage → ℕ → Type 0
PendingFrom stages k = (j : ℕ) → k ≤ j → stage_at stages j ≡ Pending

-- how many parts weren't read or written
abbrev pub count_left : List Stage → ℕ
count_left [] = 0
count_left (stage ∷ stages) = cond (is_ended stage) 0 1 + count_left stages

-- as many parts as the sectors need, of a range of the device with so many bytes
pub record IsParted (total max at count bytes parts : ℕ) : Type 0 where
  pub some : 0 < max
  pub few : max ≤ 17
  pub range : at + count ≤ total
  pub device : total < 2 ^ 64
  pub short : count ≤ most_copied
  pub size : bytes ≡ 512 * count
  pub enough : count ≤ parts * max
  pub needed : parts * max < count + max

-- the parts are handed in order, each under way with a ticket of its own; none before `first` is under way, and so many
-- weren't read or written
pub record AreParts (total max at count : ℕ) (bytes : List ℕ) (stages : List Stage) (first next left : ℕ) : Type 0 where
  pub parted : IsParted total max at count (length bytes) (length stages)
  pub ordered : first ≤ next
  pub within : next ≤ length stages
  pub past : NoneBefore stages first
  pub given : (k : ℕ) → k < next → is_pending (stage_at stages k) ≡ false
  pub waiting : PendingFrom stages next
  pub distinct : (j k ticket : ℕ) → is_handed ticket (stage_at stages j) ≡ true → is_handed ticket (stage_at stages k) ≡ true → j ≡ k
  pub counted : left ≡ count_left stages
