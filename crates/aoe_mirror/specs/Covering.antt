-- A mirror of which one side covers what fails of the other. `faults` says how many faults its disks had at first, the sides 0 and 1 and
-- the mark disk as 2, and `whole` whether nothing was stale then.
use Rattle.std.specs.Prelude.{◌≡◌, ◌≤◌, ◌<◌, ◌+◌, ◌-◌, ◌^◌, ◌==◌, ◌&&◌, ◌||◌, ℕ, Bool, true, None, min, nat_lt, if◌then◌else◌}
use Rattle.aoe_base.specs.Faults.{Rose}
use Rattle.aoe_disk.specs.State.{DiskState}
use Rattle.aoe_mirror.specs.Marks.{count_of}
use Rattle.aoe_mirror.specs.Sides.{IsMirror, Pair, disk_of, shown}

-- the count of faults of disk k is as it was, and not at its type's end: no call of the disk failed
abbrev pub has_held : (ℕ → ℕ) → Pair → ℕ → Bool
has_held faults p k = (disk_of p k).faults == faults k && nat_lt (faults k) (2 ^ 64 - 1)

-- Nothing was stale at first, and since then the mark disk didn't fail, nor did one of the sides: whatever failed of the other one was
-- covered by this one.
unfoldable pub is_covered : (ℕ → ℕ) → Bool → Pair → Bool
is_covered faults whole p = whole && has_held faults p 2 && (has_held faults p 0 || has_held faults p 1)

-- the count of faults that a mirror shows as long as it is covered: it is below its type's end
abbrev pub first_count : (ℕ → ℕ) → ℕ
first_count faults = min (faults 0 + faults 1 + faults 2) (2 ^ 64 - 2)

-- A mirror as a store whose count of faults stays as long as it is covered; then it is that of all three disks.
abbrev pub stored : (ℕ → ℕ) → Bool → Pair → DiskState
stored faults whole p = record {
  sectors = (shown p).sectors;
  faults = if is_covered faults whole p then first_count faults else (shown p).faults;
  contents = (shown p).contents;
  schedule = None;
  log = None;
}

-- what holds of a mirror since its disks had these counts of faults
pub record IsSince (faults : ℕ → ℕ) (p : Pair) : Type 0 where
  pub mirror : IsMirror p
  pub counts : (k : ℕ) → k ≤ 2 → faults k ≤ (disk_of p k).faults

-- and what holds of it as a store: where nothing was stale at first and a sector is, the side that follows failed since
pub record IsRunning (faults : ℕ → ℕ) (whole : Bool) (p : Pair) : Type 0 where
  pub since : IsSince faults p
  pub trails : whole ≡ true → 0 < count_of p.stale → Rose (faults (1 - p.side)) p.follower.faults
