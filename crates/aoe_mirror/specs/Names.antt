-- The third sector of a mark disk, which says what the two sides are called, and what a mark disk is to say of sides that are named.
use Rattle.std.specs.Prelude.{◌≡◌, ◌≤◌, ◌<◌, ◌-◌, ◌==◌, ◌||◌, ◌&&◌, ◌⊎◌, ℕ, Bool, true, false, Option, None, Some, IfSome, List, drop, take, get_or, bytes_eq, Result, Ok, Err, IfOk, if◌then◌else◌}
use Rattle.std.specs.List.{list_all}
use Rattle.aoe_base.specs.Faults.{Rose}
use Rattle.aoe_disk.specs.State.{BothTell, CanLeave, Contents, DiskState, is_loose, sector}
use Rattle.aoe_disk.specs.Sectors.{Calms, Touches}
use Rattle.aoe_mirror.specs.Calls.{Later}
use Rattle.aoe_mirror.specs.Clean.{NothingLoose, Says, clean_at}
use Rattle.aoe_mirror.specs.Mirror.{found_in}
use Rattle.aoe_mirror.specs.Sides.{Names, mark_in}
use Rattle.aoe_mirror.specs.declared.clean.Found.{Found}
use Rattle.aoe_mirror.specs.declared.names.Named.{Named}
use Rattle.aoe_mirror.specs.declared.settle.MarkRefusal.{MarkRefusal}
use Rattle.aoe_mirror.specs.declared.settle.MarkRefusal.TheVariants.{Failed, Gone, Moved, NoMark, NotMark, Replaced}
use Rattle.aoe_mirror.specs.declared.settle.SideNow.{SideNow}
use Rattle.aoe_mirror.specs.declared.settle.SideNow.TheVariants.{Absent, New, Same}
use Rattle.aoe_mirror.specs.declared.settle.Words.{Words}

-- THE THIRD SECTOR

abbrev pub are_zeros : List ℕ → Bool
are_zeros bytes = list_all (λ b. b == 0) bytes

-- the digest in 32 bytes; 32 zeros are none
unfoldable pub digest_in : List ℕ → Option (List ℕ)
digest_in bytes = if are_zeros bytes then None else Some bytes

-- the first 32 bytes of a sector that knows a name: 0x5A and zeros
unfoldable pub is_head : List ℕ → Bool
is_head head = get_or head 0 0 == 0x5a && are_zeros (drop 1 head)

-- such a sector: the digests of side 0 and side 1 stand behind its first 32 bytes, and zeros behind them
unfoldable pub is_third : List ℕ → Bool
is_third marked = is_head (take 32 marked) && are_zeros (drop 96 marked)

-- Which names a third sector of a mark disk knows: none where it is zeros.
unfoldable pub names_in : List ℕ → Option Named
names_in marked =
    if are_zeros marked then Some (record { one = None; two = None })
    else if is_third marked then
    Some (record { one = digest_in (take 32 (drop 32 marked)); two = digest_in (take 32 (drop 64 marked)) }) else None

-- which names a mark disk knows; one with fewer than three sectors, none
unfoldable pub names_at : List ℕ → Option Named
names_at bytes = names_in (sector bytes 2)

-- a mark disk knows these names, also after a crash
pub record KeepsNames (known : Named) (mark : Contents) : Type 0 where
  pub kept : is_loose mark.loose 2 ≡ false
  pub names : names_at mark.bytes ≡ Some known

-- a name that isn't 32 zeros, or none
abbrev pub IsKnown : Option (List ℕ) → Type 0
IsKnown name = IfSome name (λ digest. are_zeros digest ≡ false)

pub record AreKnown (names : Named) : Type 0 where
  pub one : IsKnown names.one
  pub two : IsKnown names.two

-- WHAT IS TO BE SAID

-- what is named is what a name is kept of
abbrev pub is_kept : Option (List ℕ) → Option (List ℕ) → Bool
is_kept None named = false
is_kept (Some kept) None = false
is_kept (Some kept) (Some named) = bytes_eq kept named

-- a side that is named, beside the name that is kept of it: the same as far as is known, a new one, or it is absent
abbrev pub side_now : Option (List ℕ) → Option (List ℕ) → SideNow
side_now None None = Absent
side_now (Some kept) None = Absent
side_now None (Some named) = Same
side_now (Some kept) (Some named) = if bytes_eq kept named then Same else New

-- the side that led leads on, and the mirror isn't clean
abbrev pub leads_on : Found → Result Found MarkRefusal
leads_on found = Ok (record { side = found.side; is_clean = false })

-- the other side leads, where it may
abbrev pub other_leads : Found → Bool → MarkRefusal → Result Found MarkRefusal
other_leads found may refusal = if may then Ok (record { side = 1 - found.side; is_clean = false }) else Err refusal

-- The side that leads from now on, and whether the mirror is clean: by what the side is now that led, by what the other one is, and whether
-- a side is told to lead that may lack some of the sectors. Where the mirror was clean the other one lacks none. A new side that is there
-- alone may be any disk.
abbrev pub found_after : Found → SideNow → SideNow → Bool → Result Found MarkRefusal
found_after found Same Same told = Ok found
found_after found Same New told = leads_on found
found_after found Same Absent told = leads_on found
found_after found New Same told = other_leads found (found.is_clean || told) (Replaced found.side)
found_after found New New told = leads_on found
found_after found New Absent told = if told then leads_on found else Err (Replaced found.side)
found_after found Absent Same told = other_leads found (found.is_clean || told) Gone
found_after found Absent New told = other_leads found told Gone
found_after found Absent Absent told = Err Gone

-- the name that is kept: the one that is given, or where the side is absent the one that was kept
abbrev pub name_after : Option (List ℕ) → Option (List ℕ) → Option (List ℕ)
name_after kept None = kept
name_after kept (Some named) = digest_in named

abbrev pub names_after : Named → Named → Named
names_after kept named = record { one = name_after kept.one named.one; two = name_after kept.two named.two }

abbrev pub with_names : Named → Result Found MarkRefusal → Result Words MarkRefusal
with_names names (Ok found) = Ok (record { found = found; names = names })
with_names names (Err refusal) = Err refusal

-- what a mark disk is to say of the sides that are named, where it says this; a side that was the other one is refused
abbrev pub words_after : Words → Named → Bool → Result Words MarkRefusal
words_after words named told =
    if is_kept words.names.two named.one then Err (Moved 0)
    else if is_kept words.names.one named.two then Err (Moved 1)
    else
    with_names (names_after words.names named)
    (found_after words.found
    (if words.found.side == 1 then side_now words.names.two named.two else side_now words.names.one named.one)
    (if words.found.side == 1 then side_now words.names.one named.one else side_now words.names.two named.two) told)

-- what a mark disk says, where all of it is that of a mark disk
abbrev pub words_in : Option Found → Option Named → Option Words
words_in None names = None
words_in (Some found) None = None
words_in (Some found) (Some names) = Some (record { found = found; names = names })

unfoldable pub words_at : List ℕ → Option Words
words_at bytes = words_in (found_in (mark_in bytes) (clean_at bytes)) (names_at bytes)

-- what it is to say, or why it is refused
abbrev pub asked : Option Words → Named → Bool → Result Words MarkRefusal
asked None named told = Err NotMark
asked (Some words) named told = words_after words named told

-- THE CALL

-- a mark disk of so many sectors says all this, also after a crash
pub record HoldsWords (sectors : ℕ) (words : Words) (mark : Contents) : Type 0 where
  pub side : Names words.found.side mark
  pub clean : Says words.found.is_clean mark
  pub names : 2 < sectors → KeepsNames words.names mark

-- the mark disk says what it was to say
pub record Settled (named : Named) (told : Bool) (sectors : ℕ) (old new : Contents) : Type 0 where
  pub words : Words
  pub asked : asked (words_at old.bytes) named told ≡ Ok words
  pub holds : HoldsWords sectors words new

-- it was refused, and says what it said
pub record Refused (refusal : MarkRefusal) (named : Named) (told : Bool) (old new : Contents) : Type 0 where
  pub asked : asked (words_at old.bytes) named told ≡ Err refusal
  pub calm : Calms old new

-- when each refusal comes
abbrev pub RefusesMark : MarkRefusal → Named → Bool → DiskState → DiskState → Type 0
RefusesMark NoMark named told old new = (old.sectors ≡ 0) × (new ≡ old)
RefusesMark NotMark named told old new = (0 < old.sectors) × BothTell (Refused NotMark named told) old.contents new.contents
RefusesMark (Moved side) named told old new = (0 < old.sectors) × BothTell (Refused (Moved side) named told) old.contents new.contents
RefusesMark (Replaced side) named told old new = (0 < old.sectors) × BothTell (Refused (Replaced side) named told) old.contents new.contents
RefusesMark Gone named told old new = (0 < old.sectors) × BothTell (Refused Gone named told) old.contents new.contents
RefusesMark Failed named told old new = (0 < old.sectors) × Rose old.faults new.faults

-- Whatever a crash leaves then or amid the call: it says that the mirror is clean only where the mark disk said so; and where it is to say
-- so no more, with no other names than those that were known.
pub record CrashesUnclean (named : Named) (told : Bool) (old new : Contents) : Type 0 where
  pub clean : is_loose old.loose 1 ≡ false → (image : List ℕ) → CanLeave new image → clean_at image ≡ Some true → clean_at old.bytes ≡ Some true
  pub names : is_loose old.loose 2 ≡ false → IfOk (asked (words_at old.bytes) named told) (λ (w : Words). w.found.is_clean ≡ false) → (image : List ℕ) → CanLeave new image
      → clean_at image ≡ Some true → names_at image ≡ names_at old.bytes

-- a sector is as it was, also after a crash
abbrev pub StaysSector : ℕ → Contents → Contents → Type 0
StaysSector s old new = (sector new.bytes s ≡ sector old.bytes s) × (is_loose old.loose s ≡ false → is_loose new.loose s ≡ false)

-- a sector that is to say what it said stays
pub record Spares (was is : Words) (old new : Contents) : Type 0 where
  pub side : is.found.side ≡ was.found.side → StaysSector 0 old new
  pub clean : is.found.is_clean ≡ was.found.is_clean → StaysSector 1 old new
  pub names : is.names ≡ was.names → StaysSector 2 old new

abbrev pub SparesOthers : Named → Bool → Contents → Contents → Type 0
SparesOthers named told old new = (was is : Words) → words_at old.bytes ≡ Some was → words_after was named told ≡ Ok is → Spares was is old new

-- ITS STEPS

-- calls of a disk, one of which failed or none
pub record Called (failed : Bool) (old new : DiskState) : Type 0 where
  pub later : Later old new
  pub cause : failed ≡ true → Rose old.faults new.faults

-- what was read of a mark disk, which was synced before
pub record ReadsWords (read : Option Words) (mark : DiskState) : Type 0 where
  pub side : IfSome read (λ (w : Words). w.found.side ≤ 1)
  pub room : IfSome read (λ (w : Words). w.found.is_clean ≡ true → 1 < mark.sectors)
  pub known : IfSome read (λ (w : Words). AreKnown w.names)
  pub words : IfSome mark.contents (λ (c : Contents). NothingLoose c × (read ≡ words_at c.bytes))

-- What a writing leaves of a mark disk which said that the mirror was clean or not, and is to say so or not. The names change only once it
-- doesn't say so.
pub record WritesSafely (was is : Bool) (old new : Contents) : Type 0 where
  pub touches : Touches 0 3 old new
  pub unclean : was ≡ false → Says false new
  pub names : is ≡ false → Says false new ⊎ ((sector new.bytes 2 ≡ sector old.bytes 2) × (is_loose new.loose 2 ≡ false))
