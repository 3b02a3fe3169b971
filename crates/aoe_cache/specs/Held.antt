-- Sectors that were written and aren't on the disk yet.
use Rattle.std.specs.Prelude.{◌≡◌, ◌≤◌, ◌<◌, ◌+◌, ◌*◌, ◌==◌, ◌++◌, ℕ, zero, suc, Bool, Option, Some, None, List, [], ◌∷◌, length, map, take, drop, nat_lt, if◌then◌else◌}
use Rattle.aoe_disk.specs.State.{with_piece, with_marks}
use Rattle.aoe_cache.specs.declared.place.HeldSector.{HeldSector}
use Rattle.aoe_cache.specs.declared.buffer.Buffer.{Buffer}

-- whole sectors from sector low on, in ascending order, and so none twice
abbrev pub IsAscending : ℕ → List HeldSector → Type 0
IsAscending low [] = Unit {0}
IsAscending low (h ∷ hs) = (low ≤ h.at) × (length h.bytes ≡ 512) × IsAscending (h.at + 1) hs

-- all of them lie below a sector
abbrev pub AreBelow : ℕ → List HeldSector → Type 0
AreBelow high [] = Unit {0}
AreBelow high (h ∷ hs) = (h.at < high) × AreBelow high hs

-- what stands in the buffer for sector s
abbrev pub held_for : List HeldSector → ℕ → Option (List ℕ)
held_for [] s = None
held_for (h ∷ hs) s = if h.at == s then Some h.bytes else held_for hs s

-- how many of ascending sectors lie below sector s
abbrev pub count_below : ℕ → List HeldSector → ℕ
count_below s [] = 0
count_below s (h ∷ hs) = if nat_lt h.at s then suc (count_below s hs) else 0

-- the n sectors of a piece that is written at sector at
abbrev pub sectors_of : ℕ → ℕ → List ℕ → List HeldSector
sectors_of at zero piece = []
sectors_of at (suc n) piece = record { at = at; bytes = take 512 piece } ∷ sectors_of (at + 1) n (drop 512 piece)

-- the buffer after n sectors from sector at on were written to it: those below them, they, and those above them
abbrev pub with_written : ℕ → ℕ → List ℕ → List HeldSector → List HeldSector
with_written at n piece held = take (count_below at held) held ++ (sectors_of at n piece ++ drop (count_below (at + n) held) held)

-- the bytes of a disk with the buffered sectors laid over them
abbrev pub laid_over : List ℕ → List HeldSector → List ℕ
laid_over bytes [] = bytes
laid_over bytes (h ∷ hs) = laid_over (with_piece bytes (512 * h.at) h.bytes) hs

-- the marks of a disk with those of the buffered sectors set
abbrev pub marked : List Bool → List HeldSector → List Bool
marked loose [] = loose
marked loose (h ∷ hs) = marked (with_marks loose h.at 1) hs

-- the numbers of sectors
abbrev pub numbers_of : List HeldSector → List ℕ
numbers_of hs = map (λ (h : HeldSector). h.at) hs

-- sectors in ascending order: of those with one number, the first
abbrev pub ordered : List HeldSector → List HeldSector
ordered [] = []
ordered (h ∷ hs) = with_written h.at 1 h.bytes (ordered hs)

-- the sectors in a buffer's places, as they stand there
abbrev pub placed : Buffer → List HeldSector
placed b = take (length b.numbers.keys) b.places.items

-- what a buffer holds
abbrev pub held_of : Buffer → List HeldSector
held_of b = ordered (placed b)
