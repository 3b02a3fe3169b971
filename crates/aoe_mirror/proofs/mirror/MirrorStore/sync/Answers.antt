use Rattle.std.proofs.Common.{refl}
use Rattle.aoe_mirror.specs.Calls.{copy_blamed}
use Rattle.aoe_mirror.specs.Sides.{pair_of}
use Rattle.aoe_mirror.proofs.Cleaning.{clean_copies, clean_syncs}
use Rattle.aoe_mirror.proofs.Copying.{copied_is}
use Rattle.aoe_mirror.proofs.Lowest.{all_same, lowest_then, still}
use Rattle.aoe_mirror.proofs.Syncing.{blames_before, blames_then, copied_syncs, err_syncs, lowest_blames, next_counts, ok_syncs}
use Rattle.aoe_mirror.proofs.mirror.MirrorStore.sync.Goals as goal

pub returns-in-Ok-clause-syncs : goal.returns-in-Ok-clause-syncs
returns-in-Ok-clause-syncs g c =
    let old = pair_of g.D.Disk.state c.self.inside.sides in
    let mid = pair_of g.D.Disk.state c.sync.new.self in
    let new = pair_of g.D.Disk.state c.resync-next.new.self in
    rw (← c.self.view_is)
    ((copied_syncs _ _ _ _ _ old mid new c.self.invariant.mirror c.in-Ok.ensures.syncs c.resync-next.ensures.copies).syncs)

pub returns-in-Ok-clause-mirror : goal.returns-in-Ok-clause-mirror
returns-in-Ok-clause-mirror g c =
    let old = pair_of g.D.Disk.state c.self.inside.sides in
    let mid = pair_of g.D.Disk.state c.sync.new.self in
    let new = pair_of g.D.Disk.state c.resync-next.new.self in
    rw (← c.self.view_is) (copied_syncs _ _ _ _ _ old mid new c.self.invariant.mirror c.in-Ok.ensures.syncs c.resync-next.ensures.copies)

pub returns-in-Ok-clause-blames : goal.returns-in-Ok-clause-blames
returns-in-Ok-clause-blames g c =
    let old = pair_of g.D.Disk.state c.self.inside.sides in
    let mid = pair_of g.D.Disk.state c.sync.new.self in
    let new = pair_of g.D.Disk.state c.resync-next.new.self in
    let counts = next_counts _ _ _ mid new c.resync-next.ensures.copies in
    rw (← c.self.view_is, c.lowest-self-inside.ensures) (lowest_blames c.in-Ok.failed (copy_blamed c.resync-next.result.1) old new
    (blames_before c.in-Ok.failed old mid new counts c.in-Ok.ensures.blames)
    (blames_then (copy_blamed c.resync-next.result.1) old mid new c.in-Ok.ensures.syncs.counts counts c.resync-next.ensures.blames))

pub returns-in-Ok-clause-copied : goal.returns-in-Ok-clause-copied
returns-in-Ok-clause-copied g c =
    let old = pair_of g.D.Disk.state c.self.inside.sides in
    let mid = pair_of g.D.Disk.state c.sync.new.self in
    rw (← c.self.view_is) (record {
      synced = mid;
      in_sync = c.in-Ok.failed;
      in_copy = copy_blamed c.resync-next.result.1;
      sync = ok_syncs _ _ old mid c.in-Ok.ensures.syncs;
      copy = rw (copied_is c.resync-next.result.1) c.resync-next.ensures.copies;
      told = c.lowest-self-inside.ensures;
      unfailed = c.in-Ok.ensures.told;
      sync_blames = c.in-Ok.ensures.blames;
      copy_blames = c.resync-next.ensures.blames;
    })

pub returns-in-Err-clause-mirror : goal.returns-in-Err-clause-mirror
returns-in-Err-clause-mirror g c =
    rw (← c.self.view_is) (err_syncs c.in-Err.disk _ (pair_of g.D.Disk.state c.self.inside.sides)
    (pair_of g.D.Disk.state c.sync.new.self) c.in-Err.ensures.syncs)

pub returns-then-self-clause-syncs : goal.returns-then-self-clause-syncs
returns-then-self-clause-syncs g c =
    let p = pair_of g.D.Disk.state c.self.inside.sides in
    rw (← c.self.view_is) ((clean_syncs tt p c.self.invariant.mirror (c.self.invariant.marked.clean c.if-self.true)).syncs)

pub returns-then-self-clause-mirror : goal.returns-then-self-clause-mirror
returns-then-self-clause-mirror g c =
    let p = pair_of g.D.Disk.state c.self.inside.sides in
    rw (← c.self.view_is) (clean_syncs tt p c.self.invariant.mirror (c.self.invariant.marked.clean c.if-self.true))

pub returns-then-self-clause-copied : goal.returns-then-self-clause-copied
returns-then-self-clause-copied g c =
    let p = pair_of g.D.Disk.state c.self.inside.sides in
    rw (← c.self.view_is) (clean_copies c.self.inside.next p c.self.invariant.mirror (c.self.invariant.marked.clean c.if-self.true))

pub returns-in-Ok-clause-lowest : goal.returns-in-Ok-clause-lowest
returns-in-Ok-clause-lowest g c =
    let old = pair_of g.D.Disk.state c.self.inside.sides in
    let mid = pair_of g.D.Disk.state c.sync.new.self in
    let new = pair_of g.D.Disk.state c.resync-next.new.self in
    rw (← c.self.view_is, c.lowest-self-inside.ensures) (lowest_then c.in-Ok.failed (copy_blamed c.resync-next.result.1) old mid new
    c.in-Ok.ensures.blames c.in-Ok.ensures.lowest c.resync-next.ensures.blames c.resync-next.ensures.lowest)

pub returns-in-Err-clause-lowest : goal.returns-in-Err-clause-lowest
returns-in-Err-clause-lowest g c = rw (← c.self.view_is) c.in-Err.ensures.lowest

pub returns-then-self-clause-lowest : goal.returns-then-self-clause-lowest
returns-then-self-clause-lowest g c =
    let p = pair_of g.D.Disk.state c.self.inside.sides in
    let m = c.self.invariant.mirror in
    rw (← c.self.view_is) (all_same p p refl (still p.lead m.lead) (still p.follower m.follower) (still p.mark m.mark.disk))
