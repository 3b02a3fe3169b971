-- A mirror as the slot of a shelf. Its disks are numbered: the sides 0 and 1, and 2 the mark disk.
use Rattle.std.specs.Prelude.{ℕ, ◌≡◌, ◌≤◌, ◌<◌, ◌-◌, ◌==◌, ◌⊎◌, Bool, true, false, List, [], ◌∷◌, get_or, is_err, is_some, Option, None, IfSome, Result, Ok, Err, if◌then◌else◌}
use Rattle.std.specs.Option.{option_map}
use Rattle.aoe_base.specs.Faults.{Rose}
use Rattle.aoe_base.specs.declared.failure.Failed.{Failed}
use Rattle.aoe_disk.specs.Calls.{SyncsTo}
use Rattle.aoe_disk.specs.State.{Contents, DiskState, is_loose, sector}
use Rattle.aoe_keep.specs.Keep.{HasMounted, IsRefused, Kept}
use Rattle.aoe_lists.specs.Settings.{Settings}
use Rattle.aoe_mirror.specs.Calls.{Blames, Cause, CopiesAll, Counts, DiskFailed, SideFailed}
use Rattle.aoe_mirror.specs.Clean.{AreEqual, CrashesTruly, Says, SaysTruly}
use Rattle.aoe_mirror.specs.Covering.{IsRunning, is_covered, stored}
use Rattle.aoe_mirror.specs.Marks.{count_of}
use Rattle.aoe_mirror.specs.Mirror.{Mirrored, Mounts, Refuses, first_of, second_of}
use Rattle.aoe_mirror.specs.Sides.{IsMirror, Pair, Survives, both, pair_of, shown, side_of}
use Rattle.aoe_mirror.specs.Watching.{TellsChanges, standing_of}
use Rattle.aoe_mirror.specs.declared.sides.Sides.{Sides}
use Rattle.aoe_mirror.specs.declared.watch.MirrorEvent.{MirrorEvent}
use Rattle.aoe_mirror.specs.declared.watch.Standing.{Standing}
use Rattle.aoe_serve.specs.Arrivals.{at_slot}
use Rattle.aoe_serve.specs.Ending.{EndsAfter}
use Rattle.aoe_serve.specs.Exporting.{HasRunAndSynced, Outside, Tells, arrivals_in}
use Rattle.aoe_serve.specs.Slots.{EachSlot, Slot}
use Rattle.aoe_serve.specs.declared.over_link.ServeEnd.TheVariants as serve
use Rattle.aoe_serve.specs.declared.over_mirror.MirrorDisks.{MirrorDisks}
use Rattle.aoe_serve.specs.declared.over_mirror.MirrorEnd.{MirrorEnd}
use Rattle.aoe_serve.specs.declared.over_mirror.MirrorStop.{MirrorStop}
use Rattle.aoe_serve.specs.declared.over_mirror.MirrorStop.TheVariants as stop
use Rattle.aoe_serve.specs.declared.over_stream.AnswerEnd.TheVariants as answer
use Rattle.aoe_serve.specs.declared.plan.Exported.{Exported}
use Rattle.aoe_serve.specs.declared.plan.Plan.{Plan}
use Rattle.aoe_serve.specs.declared.plan.RunEnd.{RunEnd}
use Rattle.aoe_serve.specs.declared.plan.RunEnd.TheVariants as end
use Rattle.aoe_target.specs.History.{count_failed, store_failed}
use Rattle.aoe_target.specs.Mounted.{Mounted}
use Rattle.aoe_target.specs.declared.station.Station.{Station}

-- The last sync, and where it was Ok and the frames ended well the copying after it: whether the disk is told that failed, and whether
-- nothing is stale. Then the mark disk says that the mirror is clean, or failed.
pub record EndsMirror (well : Bool) (unsynced : Option ℕ) (old new : Pair) : Type 0 where
  pub answer : Result (Unit {0}) Failed
  pub told : is_some unsynced ≡ is_err answer
  pub syncs : SyncsTo answer (shown old) (shown new)
  pub mirror : IsMirror new
  pub counts : Counts old new
  pub cause : is_err answer ≡ true → Cause old new
  pub blames : Blames unsynced old new
  pub whole : well ≡ true → unsynced ≡ None → (count_of new.stale ≡ 0) ⊎ SideFailed old new
  pub marked : unsynced ≡ None → count_of new.stale ≡ 0 → 1 < new.mark.sectors → IfSome new.mark.contents (Says true) ⊎ DiskFailed old new 2

-- the count of faults of a disk that was handed in
abbrev pub faults_of : {D : Type 0} → (D → DiskState) → MirrorDisks D → ℕ → ℕ
faults_of state disks k = if k == 2 then (state disks.mark).faults else if k == 1 then (state disks.two).faults else (state disks.one).faults

-- a call of that disk failed
abbrev pub HasFailed : {D : Type 0} → (D → DiskState) → MirrorDisks D → MirrorDisks D → ℕ → Type 0
HasFailed state given back k = Rose (faults_of state given k) (faults_of state back k)

-- the mirror and the keep of these disks, after the first copying
pub record IsBegun {D : Type 0} (state : D → DiskState) (given : MirrorDisks D) (kept : Kept D) (begun : Pair) : Type 0 where
  pub sides : Sides D
  pub mounts : Mounts state given.one given.two given.mark sides
  pub copies : CopiesAll (pair_of state sides) begun
  pub keep : HasMounted (state given.keep) (state kept.disk) kept.lists

-- these disks are the mirror's
pub record IsOf {D : Type 0} (state : D → DiskState) (disks : MirrorDisks D) (p : Pair) : Type 0 where
  pub one : state disks.one ≡ side_of p 0
  pub two : state disks.two ≡ side_of p 1
  pub mark : state disks.mark ≡ p.mark

-- A slot over a mirror and a keep, from the mounting to the giving back: the disks as they were handed in, the slot at its beginning
-- and its end, and the disks as they are given back. A crash of all three disks of the mirror leaves what its store shows, and a mark disk that says that
-- both sides are equal only where they are.
pub record OverMirror {D : Type 0} (state : D → DiskState) (name : ℕ → Station) (given back : MirrorDisks D) (first last : Slot) : Type 0 where
  pub kept : Kept D
  pub begun : Pair
  pub begins : IsBegun state given kept begun
  pub station : first.station ≡ name (shown begun).sectors
  pub store : first.device.store ≡ stored (faults_of state given) (count_of begun.stale == 0) begun
  pub keep : first.device.keep ≡ state kept.disk
  pub lists : first.device.lists ≡ kept.lists
  pub ended : Pair
  pub mirror : IsMirror ended
  pub survives : Survives ended
  pub truly : CrashesTruly ended
  pub store_back : last.device.store ≡ stored (faults_of state given) (count_of begun.stale == 0) ended
  pub disks_back : IsOf state back ended
  pub keep_back : state back.keep ≡ last.device.keep

-- the frames ended, and nothing failed
abbrev pub has_ended : RunEnd → Bool
has_ended (end.Answered answer.Ended) = true
has_ended (end.Served serve.Ended) = true
has_ended e = false

-- the same as of a shelf with one slot
abbrev pub exported_of : MirrorEnd → Exported
exported_of e = record { end = e.end; unsynced = option_map (λ _. 0) e.unsynced }

-- the only target of a shelf left, and gave its mirror and its keep
pub record LeavesAlone {D : Type 0} (mirror : Mirrored D) (keep : Kept D) (targets : List (Mounted (Mirrored D) D)) : Type 0 where
  pub target : Mounted (Mirrored D) D
  pub only : targets ≡ target ∷ []
  pub store : mirror ≡ target.store
  pub kept : keep ≡ target.keep

-- how many sectors are told as stale, and of which side
pub record IsLeftStale (e : MirrorEnd) (ended : Pair) : Type 0 where
  pub stale : e.stale ≡ count_of ended.stale
  pub follower : e.follower ≡ 1 - ended.side

-- The plan was run over a mirror and a keep, which were a slot: the mirror is synced then, and their disks are given back.
pub record RanMirror {D S K L : Type 0} (state : D → DiskState) (name : ℕ → Station) (faults : ℕ → ℕ) (whole : Bool) (t : Tells S K L) (p : Plan)
    (e : MirrorEnd) (a b : Outside S K L) (begun : Pair) (kept : Kept D) (back : MirrorDisks D) : Type 0 where
  pub first : Slot
  pub last : Slot
  pub station : first.station ≡ name (shown begun).sectors
  pub store : first.device.store ≡ stored faults whole begun
  pub keep : first.device.keep ≡ state kept.disk
  pub lists : first.device.lists ≡ kept.lists
  pub middle : Pair
  pub running : IsRunning faults whole middle
  pub ended : Pair
  pub ends : EndsMirror (has_ended e.end) e.unsynced middle ended
  pub left : IsLeftStale e ended
  pub crash : CrashesTruly ended
  pub store_back : last.device.store ≡ stored faults whole ended
  pub disks_back : IsOf state back ended
  pub truly : SaysTruly (state back.one) (state back.two) (state back.mark)
  pub keep_back : state back.keep ≡ last.device.keep
  pub run : HasRunAndSynced t p (exported_of e) a b (first ∷ []) (last ∷ [])
  pub covered : is_covered faults whole ended ≡ true
      → (count_failed store_failed (at_slot 0 (arrivals_in t p e.end a b (first ∷ []) run.middle run.ran)) ≡ 0) × (e.unsynced ≡ None)

-- These are the disks of a mirror's sides and of its keep.
pub record AreOf {D : Type 0} (s : Sides D) (kept : Kept D) (disks : MirrorDisks D) : Type 0 where
  pub one : disks.one ≡ first_of s
  pub two : disks.two ≡ second_of s
  pub mark : disks.mark ≡ s.mark
  pub keep : disks.keep ≡ kept.disk

-- The plan was run over a mirror that was mounted, after its first copying.
pub record RanCopied {D S K L : Type 0} (state : D → DiskState) (name : ℕ → Station) (faults : ℕ → ℕ) (t : Tells S K L) (p : Plan)
    (e : MirrorEnd) (a b : Outside S K L) (mounted : Pair) (kept : Kept D) (back : MirrorDisks D) : Type 0 where
  pub begun : Pair
  pub copies : CopiesAll mounted begun
  pub ran : RanMirror state name faults (count_of begun.stale == 0) t p e a b begun kept back

-- how a mirror stands under this lead where nothing is stale
abbrev pub whole_under : ℕ → Standing
whole_under lead = record { lead = lead; is_whole = true }

-- What a watch has been told of a mirror in a run that began under this lead: how it stands, by just the changes since nothing was stale.
pub record HasToldSince (lead : ℕ) (p : Pair) (standing : Standing) (old new : Option (List MirrorEvent)) : Type 0 where
  pub now : standing ≡ standing_of p
  pub tells : TellsChanges (whole_under lead) standing old new

-- what a watch has been told of a run that began under this lead and ended so: how the mirror stands, by just the changes since nothing was
-- stale
abbrev pub TellsOf : ℕ → MirrorEnd → Option (List MirrorEvent) → Option (List MirrorEvent) → Type 0
TellsOf lead e old new = TellsChanges (whole_under lead) (record { lead = 1 - e.follower; is_whole = e.stale == 0 }) old new

-- the same of a run over these disks: the lead at its beginning is the side that the mark disk named
pub record TellsSince {D : Type 0} (state : D → DiskState) (given : MirrorDisks D) (e : MirrorEnd) (old new : Option (List MirrorEvent)) : Type 0 where
  pub sides : Sides D
  pub mounts : Mounts state given.one given.two given.mark sides
  pub tells : TellsOf sides.side e old new

-- two sides with equal sectors where nothing is stale, which no crash changes
pub record AreEqualBut (stale : List Bool) (sides : Contents × Contents) : Type 0 where
  pub same : (s : ℕ) → is_loose stale s ≡ false → sector sides.1.bytes s ≡ sector sides.0.bytes s
  pub first : (s : ℕ) → is_loose stale s ≡ false → is_loose sides.0.loose s ≡ false
  pub second : (s : ℕ) → is_loose stale s ≡ false → is_loose sides.1.loose s ≡ false

-- the frames ended so
abbrev pub EndedAs : Result MirrorEnd MirrorStop → RunEnd → Type 0
EndedAs (Ok e) end = e.end ≡ end
EndedAs (Err why) end = ⊥

-- one side didn't fail
abbrev pub OneHeld : {D : Type 0} → (D → DiskState) → MirrorDisks D → MirrorDisks D → Type 0
OneHeld state given back = (HasFailed state given back 0 → ⊥) ⊎ (HasFailed state given back 1 → ⊥)

-- A run over a mirror and its keep: the mirror was a slot, the plan was run over it, and then it was synced. At the end the slot holds
-- what is known after the frames that came to it and the sync, and outlives a loss of power. A disk that is said to have failed did. Where
-- the last sync was Ok both sides are equal but in the sectors that are told as stale; after a run that ended well there are none, or a side
-- failed. Where nothing was stale when the run began, the mark disk didn't fail and one side didn't either, no frame got a fault of the store,
-- and the last sync was Ok, however often the other side failed. Where the last sync was Ok and nothing is stale, a mark disk of two sectors
-- says that both sides are equal, or failed; and it says so only where they are.
pub record IsMirrored {D S K L : Type 0} (state : D → DiskState) (name : ℕ → Station) (t : Tells S K L) (p : Plan) (e : MirrorEnd)
    (a b : Outside S K L) (given back : MirrorDisks D) : Type 0 where
  pub first : Slot
  pub last : Slot
  pub over : OverMirror state name given back first last
  pub run : HasRunAndSynced t p (exported_of e) a b (first ∷ []) (last ∷ [])
  pub ends : EachSlot (λ i x y. EndsAfter (at_slot i (arrivals_in t p e.end a b (first ∷ []) run.middle run.ran)) (get_or run.results i (Ok tt)) x y)
      (first ∷ []) (last ∷ [])
  pub covered : count_of over.begun.stale ≡ 0 → (HasFailed state given back 2 → ⊥) → OneHeld state given back
      → (count_failed store_failed (at_slot 0 (arrivals_in t p e.end a b (first ∷ []) run.middle run.ran)) ≡ 0) × (e.unsynced ≡ None)
  pub blames : IfSome e.unsynced (λ k. (k ≤ 2) × HasFailed state given back k)
  pub left : IsLeftStale e over.ended
  pub apart : e.unsynced ≡ None → IfSome (both (state back.one).contents (state back.two).contents) (AreEqualBut over.ended.stale)
  pub equal : e.unsynced ≡ None → e.stale ≡ 0 → IfSome (both (state back.one).contents (state back.two).contents) AreEqual
  pub marked : e.unsynced ≡ None → e.stale ≡ 0 → 1 < (state back.mark).sectors
      → IfSome (state back.mark).contents (Says true) ⊎ HasFailed state given back 2
  pub truly : SaysTruly (state back.one) (state back.two) (state back.mark)
  pub copied : has_ended e.end ≡ true → e.unsynced ≡ None → 0 < e.stale → HasFailed state given back 0 ⊎ HasFailed state given back 1

-- the sides are as they were
abbrev pub SameSides : {D : Type 0} → MirrorDisks D → MirrorDisks D → Type 0
SameSides given back = (back.one ≡ given.one) × (back.two ≡ given.two)

-- The mirror and the keep of these disks were mounted, and closed with no sector copied: so the sides have one size, and the mark disk is a
-- mark.
pub record ClosesMounted {D : Type 0} (state : D → DiskState) (given back : MirrorDisks D) : Type 0 where
  pub sides : Sides D
  pub mounts : Mounts state given.one given.two given.mark sides
  pub kept : Kept D
  pub keep : HasMounted (state given.keep) (state kept.disk) kept.lists
  pub same : SameSides given back
  pub mark : back.mark ≡ sides.mark
  pub keep_back : back.keep ≡ kept.disk

-- why nothing was run, and what that leaves of the disks
abbrev pub Stops : {D : Type 0} → (D → DiskState) → MirrorStop → MirrorDisks D → MirrorDisks D → Type 0
Stops state stop.NoMemory given back = ClosesMounted state given back
Stops state (stop.Keep refusal) given back = SameSides given back × (back.mark ≡ given.mark) × IsRefused state given.keep refusal back.keep
Stops state (stop.Mirror refusal) given back = SameSides given back
    × Refuses refusal (state given.one) (state given.two) (state given.mark) (state back.mark)
    × (lists : Settings) × HasMounted (state given.keep) (state back.keep) lists
