-- Writing the buffer down: runs of adjacent sectors in order, each one device write. One that fails holds back none after it.
use Rattle.std.specs.Prelude.{◌≡◌, ◌≢◌, ◌≤◌, ◌<◌, ◌+◌, ◌++◌, ℕ, Bool, List, [], ◌∷◌, length, take, drop, Result, Ok, Err, is_err, true, false, if◌then◌else◌}
use Rattle.std.specs.List.{flat_map, list_any}
use Rattle.aoe_disk.specs.State.{DiskState}
use Rattle.aoe_disk.specs.Calls.{WritesTo}
use Rattle.aoe_cache.specs.declared.place.HeldSector.{HeldSector}

-- the first of them, and the bytes of all
abbrev pub first_of : List HeldSector → ℕ
first_of [] = 0
first_of (h ∷ hs) = h.at

abbrev pub bytes_of : List HeldSector → List ℕ
bytes_of hs = flat_map (λ (h : HeldSector). h.bytes) hs

-- sectors one after another from sector at on
abbrev pub AreAdjacent : ℕ → List HeldSector → Type 0
AreAdjacent at [] = Unit {0}
AreAdjacent at (h ∷ hs) = (h.at ≡ at) × AreAdjacent (at + 1) hs

-- the first n sectors are joined in one device write: they are adjacent, up to 64, and as many as can be
pub record IsJoined (n : ℕ) (hs : List HeldSector) : Type 0 where
  pub some : 0 < n
  pub most : n ≤ 64
  pub there : n ≤ length hs
  pub adjacent : AreAdjacent (first_of hs) (take n hs)
  pub longest : n < 64 → n < length hs → first_of (drop n hs) ≢ first_of hs + n

-- one device write, of the first n sectors
pub record WritesRun {T E : Type 0} (n : ℕ) (result : Result T E) (hs : List HeldSector) (old new : DiskState) : Type 0 where
  pub joined : IsJoined n hs
  pub write : WritesTo (first_of hs) (bytes_of (take n hs)) result old new

-- a run: how many sectors it joins, and whether its device write failed
pub record Run : Type 0 where
  pub count : ℕ
  pub failed : Bool

abbrev pub ended : Bool → Result (Unit {0}) (Unit {0})
ended true = Err tt
ended false = Ok tt

-- device writes in the order of the sectors, each of the first run of what comes after the one before it, failed or not
abbrev pub WritesRuns : List Run → List HeldSector → DiskState → DiskState → Type 0
WritesRuns [] held old new = new ≡ old
WritesRuns (r ∷ runs) held old new =
    (next : DiskState) × WritesRun r.count (ended r.failed) held old next × WritesRuns runs (drop r.count held) next new

-- the sectors after these runs
abbrev pub after : List Run → List HeldSector → List HeldSector
after [] held = held
after (r ∷ runs) held = after runs (drop r.count held)

-- the sectors of those runs that failed
abbrev pub unwritten : List Run → List HeldSector → List HeldSector
unwritten [] held = []
unwritten (r ∷ runs) held = (if r.failed then take r.count held else []) ++ unwritten runs (drop r.count held)

abbrev pub any_failed : List Run → Bool
any_failed runs = list_any (λ (r : Run). r.failed) runs

-- each sector was in one device write, and those whose write failed are left: some, or none
pub record WritesDown (some : Bool) (held left : List HeldSector) (old new : DiskState) : Type 0 where
  pub runs : List Run
  pub writes : WritesRuns runs held old new
  pub all : after runs held ≡ []
  pub stays : left ≡ unwritten runs held
  pub failed : any_failed runs ≡ some

-- writing down ended well: everything was written, and nothing is left in the buffer
pub record Empties (held left : List HeldSector) (old new : DiskState) : Type 0 where
  pub empty : left ≡ []
  pub down : WritesDown false held left old new

-- writing down failed in part, and so does the call; the disk isn't called after it
pub record WritesPart {T E : Type 0} (result : Result T E) (held left : List HeldSector) (old new : DiskState) : Type 0 where
  pub failed : is_err result ≡ true
  pub down : WritesDown true held left old new
