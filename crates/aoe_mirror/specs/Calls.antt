-- What calls of a mirror do, and why they fail.
use Rattle.std.specs.Prelude.{◌≡◌, ◌≤◌, ◌<◌, ◌+◌, ◌-◌, ◌*◌, ◌/◌, ◌^◌, ◌⊎◌, ℕ, Bool, true, false, Option, None, Some, IfSome, IfErr, List, length, replicate, Result, Ok, Err, is_err, is_some, unwrap_or, min, if◌then◌else◌}
use Rattle.aoe_base.specs.Faults.{Rose}
use Rattle.aoe_base.specs.declared.failure.Failed.{Failed}
use Rattle.aoe_disk.specs.State.{DiskState, IsDisk, BothTell, with_marks, is_loose}
use Rattle.aoe_disk.specs.Calls.{IsRun, Reads, WritesTo, SyncsTo}
use Rattle.aoe_disk.specs.Sectors.{Calms}
use Rattle.aoe_store.specs.Store.{StoresTo}
use Rattle.aoe_mirror.specs.Marks.{IsClear, IsNextRun, count_of, with_each, without_marks}
use Rattle.aoe_mirror.specs.Sides.{Pair, IsMark, IsMirror, disk_of, shown, side_of, turned}

-- THE CAUSES

-- a call of the lead failed, of the follower, of the mark disk, of disk k: lead and follower as they were when the mirror was called
abbrev pub LeadFailed : Pair → Pair → Type 0
LeadFailed old new = Rose old.lead.faults (side_of new old.side).faults

abbrev pub FollowerFailed : Pair → Pair → Type 0
FollowerFailed old new = Rose old.follower.faults (side_of new (1 - old.side)).faults

abbrev pub MarkFailed : Pair → Pair → Type 0
MarkFailed old new = Rose old.mark.faults new.mark.faults

abbrev pub DiskFailed : Pair → Pair → ℕ → Type 0
DiskFailed old new k = Rose (disk_of old k).faults (disk_of new k).faults

-- a call of the side failed that follows now
abbrev pub NewFollowerFailed : Pair → Pair → Type 0
NewFollowerFailed old new = Rose (side_of old (1 - new.side)).faults new.follower.faults

-- side 0 failed, or side 1
abbrev pub SideFailed : Pair → Pair → Type 0
SideFailed old new = DiskFailed old new 0 ⊎ DiskFailed old new 1

-- no disk's count of faults falls
abbrev pub Counts : Pair → Pair → Type 0
Counts old new = (k : ℕ) → k ≤ 2 → (disk_of old k).faults ≤ (disk_of new k).faults

-- a read fails where neither side gives it: the lead failed, and the follower did or has a stale sector there
pub record ReadCause (at n : ℕ) (old new : Pair) : Type 0 where
  pub lead : LeadFailed old new
  pub follower : (IsClear old.stale at n → ⊥) ⊎ FollowerFailed old new

-- a write or a sync fails where the lead failed while a sector was stale, both sides failed, or the mark disk did
abbrev pub Cause : Pair → Pair → Type 0
Cause old new = (LeadFailed old new × (0 < count_of old.stale)) ⊎ ((LeadFailed old new × FollowerFailed old new) ⊎ MarkFailed old new)

-- a sector gets stale only where the side failed that follows then, or the lead did while another sector was stale; and the lead changes
-- only where the old lead failed
pub record Keeps (old new : Pair) : Type 0 where
  pub later : old.mark.faults ≤ new.mark.faults
  pub stale : (s : ℕ) → is_loose old.stale s ≡ false → is_loose new.stale s ≡ true
      → NewFollowerFailed old new ⊎ (LeadFailed old new × (0 < count_of old.stale))
  pub lead : (new.side ≡ old.side) ⊎ LeadFailed old new

-- the stale sectors after a write of n sectors: none of them where both sides were written, all of them where one failed, and as
-- before where the mark disk failed first
abbrev pub MarksWrite : ℕ → ℕ → Bool → Pair → Pair → Type 0
MarksWrite at n failed old new =
    ((failed ≡ false) × (new.stale ≡ without_marks old.stale at n))
    ⊎ (((LeadFailed old new ⊎ FollowerFailed old new) × (new.stale ≡ with_marks old.stale at n))
    ⊎ ((failed ≡ true) × MarkFailed old new × (new.stale ≡ old.stale)))

-- THE CALLS

pub record MirrorReads {T E : Type 0} (at n : ℕ) (result : Result T E) (out : List ℕ) (old new : Pair) : Type 0 where
  pub mirror : IsMirror new
  pub reads : Reads at n result out (shown old) (shown new)
  pub keeps : Keeps old new
  pub counts : Counts old new
  pub side : new.side ≡ old.side
  pub stale : new.stale ≡ old.stale
  pub mark : new.mark ≡ old.mark
  pub settled : new.settled ≡ old.settled
  pub lead : new.lead.contents ≡ old.lead.contents
  pub follower : new.follower.contents ≡ old.follower.contents
  pub cause : is_err result ≡ true → ReadCause at (n / 512) old new

pub record MirrorWrites {T E : Type 0} (at : ℕ) (piece : List ℕ) (result : Result T E) (old new : Pair) : Type 0 where
  pub mirror : IsMirror new
  pub stores : StoresTo at piece result (shown old) (shown new)
  pub keeps : Keeps old new
  pub counts : Counts old new
  pub marks : MarksWrite at (length piece / 512) (is_err result) old new
  pub settled : is_err result ≡ false → new.settled ≡ true
  pub cause : is_err result ≡ true → Cause old new

-- a copy of a run of n stale sectors from sector at on: they are stale no more, or a side failed
pub record Copies (at n : ℕ) (failed : Bool) (old new : Pair) : Type 0 where
  pub mirror : IsMirror new
  pub run : IsRun 1 failed (shown old) (shown new)
  pub calm : BothTell Calms (shown old).contents (shown new).contents
  pub side : new.side ≡ old.side
  pub mark : new.mark ≡ old.mark
  pub counts : Counts old new
  pub settled : new.settled ≡ old.settled
  pub done : failed ≡ false → new.stale ≡ without_marks old.stale at n
  pub stays : failed ≡ true → new.stale ≡ old.stale
  pub cause : failed ≡ true → LeadFailed old new ⊎ FollowerFailed old new

-- a copy of the next run of stale sectors from sector `from` on, behind which the copy after it goes on; or nothing is stale
abbrev pub CopiesNext : ℕ → ℕ → Bool → Pair → Pair → Type 0
CopiesNext from next failed old new = ((count_of old.stale ≡ 0) × (failed ≡ false) × (new ≡ old))
    ⊎ ((at : ℕ) × (n : ℕ) × IsNextRun old.stale from at n × (next ≡ at + n) × Copies at n failed old new)

-- the count rose by n at least, where it didn't come to its type's end
abbrev pub RoseBy : ℕ → ℕ → ℕ → Type 0
RoseBy n before after = after < 2 ^ 64 - 1 → before + n ≤ after

-- Each run of stale sectors was copied once, also behind one of which the copy failed: each failure leaves 64 sectors at most. Where nothing
-- was stale no disk was called.
pub record CopiesAll (old new : Pair) : Type 0 where
  pub mirror : IsMirror new
  pub sectors : new.lead.sectors ≡ old.lead.sectors
  pub calm : BothTell Calms (shown old).contents (shown new).contents
  pub later : (shown old).faults ≤ (shown new).faults
  pub side : new.side ≡ old.side
  pub mark : new.mark ≡ old.mark
  pub counts : Counts old new
  pub settled : new.settled ≡ old.settled
  pub still : count_of old.stale ≡ 0 → new ≡ old
  pub fails : ℕ
  pub left : count_of new.stale ≤ 64 * fails
  pub rose : RoseBy fails (shown old).faults (shown new).faults
  pub cause : 0 < fails → SideFailed old new

pub record MirrorSyncs {T E : Type 0} (result : Result T E) (old new : Pair) : Type 0 where
  pub mirror : IsMirror new
  pub syncs : SyncsTo result (shown old) (shown new)
  pub keeps : Keeps old new
  pub counts : Counts old new
  pub settled : is_err result ≡ false → new.settled ≡ true
  pub cause : is_err result ≡ true → Cause old new

-- the disk that is said to have failed did
abbrev pub Blames : Option ℕ → Pair → Pair → Type 0
Blames failed old new = IfSome failed (λ k. (k ≤ 2) × DiskFailed old new k)

-- the disk that a sync tells
abbrev pub blamed_of : Result (Option ℕ) ℕ → Option ℕ
blamed_of (Ok failed) = failed
blamed_of (Err k) = Some k

-- the side that a copy tells
abbrev pub copy_blamed : {T : Type 0} → Result T ℕ → Option ℕ
copy_blamed (Ok v) = None
copy_blamed (Err k) = Some k

-- the lower of two disks
abbrev pub lowest : Option ℕ → Option ℕ → Option ℕ
lowest failed None = failed
lowest None (Some k) = Some k
lowest (Some j) (Some k) = Some (min j k)

-- no call of a disk failed
abbrev pub Unfailed : DiskState → DiskState → Type 0
Unfailed old new = (calls : ℕ) × IsRun calls false old new

-- no call failed of a disk below the one that is said to have failed, or of any where none is
abbrev pub IsLowest : Option ℕ → Pair → Pair → Type 0
IsLowest failed old new = (k : ℕ) → k < unwrap_or failed 3 → Unfailed (disk_of old k) (disk_of new k)

-- the same side leads, and the same sectors are stale
abbrev pub StaysWhole : Pair → Pair → Type 0
StaysWhole old new = (new.side ≡ old.side) × (new.stale ≡ old.stale)

-- An Ok sync: both sides were synced, or one of them where the other failed, and then the next run of stale sectors is copied. The lower of
-- the disks that failed in the two is told; where none is, the sync changed no lead and no mark.
pub record SyncsAndCopies (from next : ℕ) (failed : Option ℕ) (old new : Pair) : Type 0 where
  pub synced : Pair
  pub in_sync : Option ℕ
  pub in_copy : Option ℕ
  pub sync : (let answer : Result (Unit {0}) Failed = Ok tt in MirrorSyncs answer old synced)
  pub copy : CopiesNext from next (is_some in_copy) synced new
  pub told : failed ≡ lowest in_sync in_copy
  pub unfailed : in_sync ≡ None → StaysWhole old synced
  pub sync_blames : Blames in_sync old synced
  pub copy_blames : Blames in_copy synced new

-- THEIR STEPS

-- a disk after calls of it
pub record Later (old new : DiskState) : Type 0 where
  pub disk : IsDisk new
  pub sectors : new.sectors ≡ old.sectors
  pub later : old.faults ≤ new.faults

-- the mark disk was made to name the lead, where it may not name it yet
pub record SettlesLead (failed : Bool) (old new : Pair) : Type 0 where
  pub is : new ≡ record old { mark = new.mark; settled = new.settled }
  pub settled : failed ≡ false → new.settled ≡ true
  pub was : new.settled ≡ false → old.settled ≡ false
  pub named : IsMark new
  pub mark : Later old.mark new.mark
  pub unfailed : failed ≡ false → Unfailed old.mark new.mark
  pub cause : failed ≡ true → MarkFailed old new

-- what a device call answers
abbrev pub Answer : Type 0
Answer = Result (Unit {0}) Failed

-- the follower was written after the lead
pub record Follows (at : ℕ) (piece : List ℕ) (old new : Pair) : Type 0 where
  pub answer : Answer
  pub written : DiskState
  pub write : WritesTo at piece answer old.follower written
  pub is : new ≡ record old { follower = written; stale = with_each old.stale at (length piece / 512) (is_err answer) }

-- the lead failed, and the follower can't lead in its place: it has stale sectors, or failed too
pub record Halts (at : ℕ) (piece : List ℕ) (fails : Bool) (old new : Pair) : Type 0 where
  pub failed : fails ≡ true
  pub is : new ≡ record old { follower = new.follower; stale = with_marks old.stale at (length piece / 512) }
  pub follower : ((0 < count_of old.stale) × (new.follower ≡ old.follower))
      ⊎ ((answer : Answer) × (is_err answer ≡ true) × WritesTo at piece answer old.follower new.follower)

-- the lead failed, and the follower leads in its place
pub record Swaps (at : ℕ) (piece : List ℕ) (failed : Bool) (old new : Pair) : Type 0 where
  pub whole : count_of old.stale ≡ 0
  pub written : DiskState
  pub answer : Answer
  pub done : is_err answer ≡ false
  pub write : WritesTo at piece answer old.follower written
  pub settles : SettlesLead failed (record {
    lead = written;
    follower = old.lead;
    mark = old.mark;
    side = 1 - old.side;
    stale = with_marks old.stale at (length piece / 512);
    settled = false;
  }) new

-- the lead failed, and the follower is read where nothing is stale
abbrev pub FollowerReads : {T E : Type 0} → ℕ → ℕ → Result T E → List ℕ → Pair → Pair → Type 0
FollowerReads at n result out old new =
    ((is_err result ≡ true) × (IsClear old.stale at (n / 512) → ⊥) × (new ≡ old))
    ⊎ (IsClear old.stale at (n / 512) × (new ≡ record old { follower = new.follower }) × Reads at n result out old.follower new.follower)

-- the follower was synced after the lead: where that failed, all of it is stale
pub record FollowerSyncs (blamed : Option ℕ) (old new : Pair) : Type 0 where
  pub answer : Answer
  pub synced : DiskState
  pub sync : SyncsTo answer old.follower synced
  pub is : new ≡ record old { follower = synced; stale = if is_err answer then replicate (length old.stale) true else old.stale }
  pub told : blamed ≡ (if is_err answer then Some (1 - old.side) else None)

-- the lead's sync failed, and a sector is stale
pub record StaysLead {T : Type 0} (result : Result T ℕ) (old new : Pair) : Type 0 where
  pub stale : 0 < count_of old.stale
  pub is : new ≡ old
  pub told : is_err result ≡ true
  pub blamed : IfErr result (λ k. k ≡ old.side)

-- all of the new follower is stale, and the new lead was synced
pub record Leads {T : Type 0} (result : Result T ℕ) (old new : Pair) : Type 0 where
  pub answer : Answer
  pub synced : DiskState
  pub sync : SyncsTo answer old.lead synced
  pub is : new ≡ record old { lead = synced; stale = replicate (length old.stale) true }
  pub told : is_err result ≡ is_err answer
  pub blamed : IfErr result (λ k. k ≡ 0)

-- the lead's sync failed, and nothing is stale: the follower leads, where the mark disk can be made to say so
pub record TakesLead {T : Type 0} (result : Result T ℕ) (old new : Pair) : Type 0 where
  pub whole : count_of old.stale ≡ 0
  pub fails : Bool
  pub mid : Pair
  pub settles : SettlesLead fails (turned old) mid
  pub rest : ((fails ≡ true) × (new ≡ mid) × (is_err result ≡ true) × IfErr result (λ k. k ≡ old.side)) ⊎ ((fails ≡ false) × Leads result mid new)

-- a piece was written to the follower, which was synced; or the write failed
pub record WritesCopy {T : Type 0} (at : ℕ) (piece : List ℕ) (result : Result T ℕ) (old new : Pair) : Type 0 where
  pub answer : Answer
  pub written : DiskState
  pub write : WritesTo at piece answer old.follower written
  pub blamed : IfErr result (λ k. k ≡ 1 - old.side)
  pub rest : ((is_err answer ≡ true) × (is_err result ≡ true) × (new ≡ record old { follower = written }))
      ⊎ ((is_err answer ≡ false) × (reply : Answer) × (is_err result ≡ is_err reply) × SyncsTo reply written new.follower × (new ≡ record old { follower = new.follower }))

-- n sectors from sector at on were read from the lead, written to the follower, and the follower was synced; or this ended at a
-- call that failed
pub record CopiesRun {T : Type 0} (at n : ℕ) (result : Result T ℕ) (old new : Pair) : Type 0 where
  pub answer : Answer
  pub piece : List ℕ
  pub looked : DiskState
  pub read : Reads at n answer piece old.lead looked
  pub size : length piece ≡ n
  pub rest : ((is_err answer ≡ true) × (is_err result ≡ true) × IfErr result (λ k. k ≡ old.side) × (new ≡ record old { lead = looked }))
      ⊎ ((is_err answer ≡ false) × WritesCopy at piece result (record old { lead = looked }) new)
