-- A mirror that is clean: both sides have the same sectors, and the mark disk says so, for the next mounting.
use Rattle.std.specs.Prelude.{◌≡◌, ◌≤◌, ◌<◌, ◌==◌, ◌⊎◌, ℕ, Bool, true, false, Option, None, Some, IfSome, List, drop, get_or, if◌then◌else◌}
use Rattle.std.specs.List.{list_all}
use Rattle.aoe_disk.specs.State.{CanLeave, Contents, DiskState, is_loose, sector}
use Rattle.aoe_mirror.specs.Calls.{MarkFailed}
use Rattle.aoe_mirror.specs.Marks.{count_of}
use Rattle.aoe_mirror.specs.Sides.{IsMirror, Names, Pair, both}

-- what a second sector of a mark disk says: clean where its first byte is 0xC3, and not known to be clean where that is 0; all others are
-- zero
unfoldable pub clean_in : List ℕ → Option Bool
clean_in marked =
    if list_all (λ b. b == 0) (drop 1 marked) then if get_or marked 0 0 == 0xc3 then Some true else if get_or marked 0 0 == 0 then Some false else None else None

-- what a mark disk says; one with a single sector, that the mirror isn't known to be clean
unfoldable pub clean_at : List ℕ → Option Bool
clean_at bytes = clean_in (sector bytes 1)

-- a mark disk says this, also after a crash
pub record Says (clean : Bool) (mark : Contents) : Type 0 where
  pub kept : is_loose mark.loose 1 ≡ false
  pub says : clean_at mark.bytes ≡ Some clean

-- what a mark disk said it says still, and it names the side that it named
abbrev pub KeepsWord : DiskState → DiskState → Type 0
KeepsWord old new = (clean : Bool) → IfSome old.contents (Says clean) → IfSome new.contents (Says clean)

abbrev pub KeepsName : DiskState → DiskState → Type 0
KeepsName old new = (k : ℕ) → IfSome old.contents (Names k) → IfSome new.contents (Names k)

-- no crash changes a sector
abbrev pub NothingLoose : Contents → Type 0
NothingLoose c = (s : ℕ) → is_loose c.loose s ≡ false

-- two sides with equal sectors, which no crash changes
pub record AreEqual (sides : Contents × Contents) : Type 0 where
  pub same : (s : ℕ) → sector sides.1.bytes s ≡ sector sides.0.bytes s
  pub first : NothingLoose sides.0
  pub second : NothingLoose sides.1

-- nothing is stale, both sides are equal, and the mark disk names the lead and can say more
pub record IsClean (p : Pair) : Type 0 where
  pub settled : p.settled ≡ true
  pub room : 1 < p.mark.sectors
  pub fresh : count_of p.stale ≡ 0
  pub equal : IfSome (both p.lead.contents p.follower.contents) AreEqual

-- A mirror whose mark disk may say that it is clean, or doesn't: it may only while the mirror is.
pub record IsMarked (word : Bool) (p : Pair) : Type 0 where
  pub clean : word ≡ true → IsClean p
  pub silent : word ≡ false → IfSome p.mark.contents (Says false)

-- three disks of which the mark disk says that the two sides are clean only where they are equal
abbrev pub SaysTruly : DiskState → DiskState → DiskState → Type 0
SaysTruly one two mark = IfSome mark.contents (λ (m : Contents). clean_at m.bytes ≡ Some true → IfSome (both one.contents two.contents) AreEqual)

-- a mark disk that tells nothing comes with sides that tell nothing
abbrev pub TellAlike : DiskState → DiskState → DiskState → Type 0
TellAlike one two mark = mark.contents ≡ None → both one.contents two.contents ≡ None

-- whatever a crash leaves of all three disks, the mark disk says that the sides are clean only where they are equal
abbrev pub CrashesTruly : Pair → Type 0
CrashesTruly p = (sides : Contents × Contents) (mark : Contents) (one two three : List ℕ)
    → both p.lead.contents p.follower.contents ≡ Some sides → p.mark.contents ≡ Some mark
    → CanLeave sides.0 one → CanLeave sides.1 two → CanLeave mark three
    → clean_at three ≡ Some true → (s : ℕ) → sector two s ≡ sector one s

-- the sides that may be read in each other's place from the first: equal where the follower isn't stale
abbrev pub AreAlike : List Bool → Option (Contents × Contents) → Type 0
AreAlike stale sides = IfSome sides (λ (x : Contents × Contents). (s : ℕ) → is_loose stale s ≡ false → sector x.1.bytes s ≡ sector x.0.bytes s)

-- The mark disk was made to say that the mirror is clean, where nothing is stale and it names the lead and has the room; else nothing was
-- done.
pub record MarksClean (old new : Pair) : Type 0 where
  pub mirror : IsMirror new
  pub is : new ≡ record old { mark = new.mark }
  pub sectors : new.mark.sectors ≡ old.mark.sectors
  pub later : old.mark.faults ≤ new.mark.faults
  pub still : 0 < count_of old.stale → new ≡ old
  pub says : count_of old.stale ≡ 0 → old.settled ≡ true → 1 < old.mark.sectors → IfSome new.mark.contents (Says true) ⊎ MarkFailed old new
