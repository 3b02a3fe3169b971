use Rattle.std.proofs.Common.{inl, inr, refl}
use Rattle.aoe_mirror.specs.Sides.{pair_of}
use Rattle.aoe_mirror.proofs.Bits.{next_set}
use Rattle.aoe_mirror.proofs.Copying.{copied_blames}
use Rattle.aoe_mirror.proofs.Lowest.{all_same, still}
use Rattle.aoe_mirror.proofs.sides.Sides.resync.Goals as goal

pub resync_run-requires-clause-run : goal.resync_run-requires-clause-run
resync_run-requires-clause-run g c = next_set c.args.self.now.stale c.args.from c.in-Some.at c.in-Some.n c.in-Some.ensures

pub returns-in_default-clause-copies : goal.returns-in_default-clause-copies
returns-in_default-clause-copies g c = inl (c.in_default.ensures, refl, refl)

pub returns-clause-copies : goal.returns-clause-copies
returns-clause-copies g c = inr (c.in-Some.at, c.in-Some.n, c.in-Some.ensures, refl, c.resync_run.ensures.copies)

pub returns-clause-mirror : goal.returns-clause-mirror
returns-clause-mirror g c = c.resync_run.ensures.copies.mirror

pub returns-clause-blames : goal.returns-clause-blames
returns-clause-blames g c = copied_blames c.resync_run.result (pair_of g.D.Disk.state c.args.self.now)
    (pair_of g.D.Disk.state c.resync_run.new.self) c.resync_run.ensures.blames

pub returns-in_default-clause-lowest : goal.returns-in_default-clause-lowest
returns-in_default-clause-lowest g c =
    let p = pair_of g.D.Disk.state c.args.self.now in
    let m = c.requires.mirror in
    all_same p p refl (still p.lead m.lead) (still p.follower m.follower) (still p.mark m.mark.disk)
