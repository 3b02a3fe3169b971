-- Which device calls a keep makes, with their bytes: the file format is what these write.
use Rattle.std.specs.Prelude.{ℕ, ◌≡◌, ◌+◌, ◌*◌, ◌==◌, Bool, true, false, nat_lt, List, [], ◌∷◌, ◌++◌, replicate, Option, IfSome, if◌then◌else◌}
use Rattle.aoe_lists.specs.Settings.{Settings}
use Rattle.aoe_disk.specs.State.{DiskState, DeviceCall, Read, Write, Sync}
use Rattle.aoe_disk.specs.Calls.{Makes}
use Rattle.aoe_keep.specs.Body.{format_2, spelling}
use Rattle.aoe_keep.specs.Found.{is_open, placement, slot}
use Rattle.aoe_keep.specs.Keep.{Kept}
use Rattle.aoe_keep.specs.Stages.{spare, turn_after, next_place, is_unplaced}
use Rattle.aoe_keep.specs.declared.place.Place.{Place}
use Rattle.aoe_keep.specs.declared.mounted.Mounted.{Mounted}
use Rattle.aoe_keep.specs.declared.refusal.MountRefusal.{MountRefusal}
use Rattle.aoe_keep.specs.declared.refusal.MountRefusal.TheVariants.{Failed, TooSmall, BadKeep}

-- a gate's sector: 0xA7 where it is open and 0 where it is closed, and 511 zeros
unfoldable pub gate : Bool → List ℕ
gate opens = (if opens then 0xa7 else 0) ∷ replicate 511 0

abbrev pub write_gate : Option Place → Bool → DeviceCall
write_gate place opens = Write (8 * spare place) (gate opens)

abbrev pub write_body : Option Place → Settings → DeviceCall
write_body place next = Write (8 * spare place + 1) (spelling format_2 (turn_after place) next)

-- the gate of the spare slot is written closed; where it is known to be closed a sync stands in the place of the write
abbrev pub close_gate : Option Place → Bool → DeviceCall
close_gate place is_closed = if is_closed then Sync else write_gate place false

-- the six calls that replace the lists
abbrev pub replacement : Option Place → Bool → Settings → List DeviceCall
replacement place is_closed next =
    close_gate place is_closed ∷ Sync
    ∷ write_body place next ∷ Sync
    ∷ write_gate place true ∷ Sync
    ∷ []

-- whether the gate of the spare slot is known to be closed after so many of these calls, the last of which failed: not once it
-- was to be opened
abbrev pub closed_after : ℕ → Bool → Bool
closed_after made is_closed = if made == 1 then is_closed else nat_lt made 5

-- a replacement of the lists, by the six calls or those up to one that failed. Then the lists stand where they were to go; or, where a
-- call failed, where they stood
pub record ReplacesBy {D : Type 0} (state : D → DiskState) (next : Settings) (failed : Bool) (old new : Kept D) : Type 0 where
  pub calls : Makes (replacement old.place old.is_closed next) failed (state old.disk) (state new.disk)
  pub place : new.place ≡ (if failed then old.place else next_place old.place)
  pub closed : new.is_closed ≡ (if failed then closed_after calls.made old.is_closed else is_unplaced old.place)

-- what a mounted disk shows of itself
abbrev pub shown : {D : Type 0} → Mounted D → Kept D
shown k = record { disk = k.disk; lists = k.lists; place = k.place; is_closed = k.is_closed }

-- the first two calls, or those up to one that failed
pub record Clears {D : Type 0} (state : D → DiskState) (failed : Bool) (old new : Mounted D) : Type 0 where
  pub calls : Makes (close_gate old.place old.is_closed ∷ Sync ∷ []) failed (state old.disk) (state new.disk)
  pub closed : new.is_closed ≡ (if calls.made == 1 then old.is_closed else true)

-- the reads of a slot: its gate, and the body behind an open one
abbrev pub reads_of : ℕ → Bool → List DeviceCall
reads_of k opened = Read (8 * k) 512 ∷ (if opened then Read (8 * k + 1) 3584 ∷ [] else [])

-- the calls of a mounting, by which of the two gates are open
abbrev pub mounting : Bool → Bool → List DeviceCall
mounting first second = Sync ∷ (reads_of 0 first ++ reads_of 1 second)

-- the calls of a mounting, or those up to one that failed. A disk that tells its contents has the gates so
pub record MountsBy (failed : Bool) (old new : DiskState) : Type 0 where
  pub first : Bool
  pub second : Bool
  pub gates : IfSome old.contents (λ c. (first ≡ is_open c.bytes 0) × (second ≡ is_open c.bytes 1))
  pub calls : Makes (mounting first second) failed old new

-- the reads of slot k, or those up to one that failed
pub record ReadsSlot (k : ℕ) (failed : Bool) (old new : DiskState) : Type 0 where
  pub opened : Bool
  pub gate : IfSome old.contents (λ c. opened ≡ is_open c.bytes k)
  pub calls : Makes (reads_of k opened) failed old new

-- the calls of a mounting that was refused: none of a disk that is too small
abbrev pub RefusesBy : {D : Type 0} → (D → DiskState) → D → MountRefusal → D → Type 0
RefusesBy state disk (TooSmall sectors) left = left ≡ disk
RefusesBy state disk Failed left = MountsBy true (state disk) (state left)
RefusesBy state disk (BadKeep k) left = MountsBy false (state disk) (state left)

-- a keep's lists stand in this slot, by what the disk told of its slots when it was mounted
abbrev pub StandsBy : {D : Type 0} → DiskState → Kept D → Type 0
StandsBy disk k = IfSome disk.contents (λ c. placement (slot c.bytes 0) (slot c.bytes 1) ≡ (k.place, k.is_closed))
