-- Two disks that hold the sectors of one slot, and what is seen of them.
use Rattle.std.specs.Prelude.{◌≡◌, ◌≤◌, ◌<◌, ◌+◌, ◌-◌, ◌==◌, ◌||◌, ◌&&◌, ℕ, Bool, true, false, not, Option, None, Some, IfSome, List, length, map, drop, get_or, option_map, if◌then◌else◌}
use Rattle.std.specs.List.{list_all, range_with_len}
use Rattle.aoe_disk.specs.State.{Contents, DiskState, IsDisk, CanLeave, is_loose, sector}
use Rattle.aoe_mirror.specs.declared.sides.Sides.{Sides}

-- the lead and the follower, the disk whose first sector says which of them leads, which it is (0 or 1), the sectors of the follower
-- that may differ from the lead's, and whether the mark disk names the lead
pub record Pair : Type 0 where
  pub lead : DiskState
  pub follower : DiskState
  pub mark : DiskState
  pub side : ℕ
  pub stale : List Bool
  pub settled : Bool

abbrev pub pair_of : {D : Type 0} → (D → DiskState) → Sides D → Pair
pair_of state s = record {
  lead = state s.lead;
  follower = state s.follower;
  mark = state s.mark;
  side = s.side;
  stale = s.stale;
  settled = s.settled;
}

-- what both sides tell, where both do
abbrev pub both : {A : Type 0} → Option A → Option A → Option (A × A)
both None None = None
both None (Some b) = None
both (Some a) None = None
both (Some a) (Some b) = Some (a, b)

-- a sector of the mirror is loose where it is on the lead, or is on the follower and isn't stale
abbrev pub is_loose_in : List Bool → List Bool → List Bool → ℕ → Bool
is_loose_in stale lead follower s = is_loose lead s || (is_loose follower s && not (is_loose stale s))

unfoldable pub loose_of : List Bool → List Bool → List Bool → List Bool
loose_of stale lead follower = map (is_loose_in stale lead follower) (range_with_len 0 (length stale))

-- the mirror has the lead's sectors
abbrev pub seen : List Bool → Contents × Contents → Contents
seen stale sides = record { bytes = sides.0.bytes; loose = loose_of stale sides.0.loose sides.1.loose; settled = None }

-- a mirror as a store: it counts the faults of all three disks, and tells no call as its own
abbrev pub shown : Pair → DiskState
shown p = record {
  sectors = p.lead.sectors;
  faults = p.lead.faults + p.follower.faults + p.mark.faults;
  contents = option_map (seen p.stale) (both p.lead.contents p.follower.contents);
  schedule = None;
  log = None;
}

-- each sector that isn't stale is the same on both sides; and as long as the mark disk may name either, each stale sector is loose on
-- the lead
pub record Agree (settled : Bool) (stale : List Bool) (sides : Contents × Contents) : Type 0 where
  pub same : (s : ℕ) → is_loose stale s ≡ false → sector sides.1.bytes s ≡ sector sides.0.bytes s
  pub unsettled : settled ≡ false → (s : ℕ) → is_loose stale s ≡ true → is_loose sides.0.loose s ≡ true

-- the side that the first byte of a mark disk names
abbrev pub named : List ℕ → ℕ
named bytes = if get_or bytes 0 0 == 0xa7 then 1 else 0

-- the side that a sector names which is a mark: its first byte says it, 0xA7 the second or 0 the first, and all others are zero
unfoldable pub side_in : List ℕ → Option ℕ
side_in marked =
    if list_all (λ b. b == 0) (drop 1 marked) then if get_or marked 0 0 == 0xa7 then Some 1 else if get_or marked 0 0 == 0 then Some 0 else None else None

-- the side that a disk names whose first sector is a mark
unfoldable pub mark_in : List ℕ → Option ℕ
mark_in bytes = side_in (sector bytes 0)

-- a crash leaves a mark disk that names this side, and whose first sector is a mark
pub record Names (k : ℕ) (mark : Contents) : Type 0 where
  pub kept : is_loose mark.loose 0 ≡ false
  pub side : named mark.bytes ≡ k
  pub whole : mark_in mark.bytes ≡ Some k

-- what holds of the mark disk
pub record IsMark (p : Pair) : Type 0 where
  pub disk : IsDisk p.mark
  pub room : 0 < p.mark.sectors
  pub side : p.side ≤ 1
  pub named : p.settled ≡ true → IfSome p.mark.contents (Names p.side)

-- what holds of a mirror after each call
pub record IsMirror (p : Pair) : Type 0 where
  pub lead : IsDisk p.lead
  pub follower : IsDisk p.follower
  pub size : p.follower.sectors ≡ p.lead.sectors
  pub mark : IsMark p
  pub marks : length p.stale ≡ p.lead.sectors
  pub agree : IfSome (both p.lead.contents p.follower.contents) (Agree p.settled p.stale)

-- side k, and disk k, where the mark disk is the last
abbrev pub side_of : Pair → ℕ → DiskState
side_of p k = if k == p.side then p.lead else p.follower

abbrev pub disk_of : Pair → ℕ → DiskState
disk_of p k = if k == 2 then p.mark else side_of p k

-- the mirror with its sides in the other order, before the mark disk says so
abbrev pub turned : Pair → Pair
turned p = record { lead = p.follower; follower = p.lead; mark = p.mark; side = 1 - p.side; stale = p.stale; settled = false }

-- of three images that a crash leaves of the lead, the follower and the mark disk, the one of the side that is named
abbrev pub reopened : Pair → List ℕ → List ℕ → List ℕ → List ℕ
reopened p lead follower mark = if named mark == p.side then lead else follower

-- a crash of all three disks leaves the mirror's sectors, as a crash leaves them of one disk
abbrev pub Survives : Pair → Type 0
Survives p = (sides : Contents × Contents) (mark : Contents) (one two three : List ℕ)
    → both p.lead.contents p.follower.contents ≡ Some sides → p.mark.contents ≡ Some mark
    → CanLeave sides.0 one → CanLeave sides.1 two → CanLeave mark three → CanLeave (seen p.stale sides) (reopened p one two three)
