use Rattle.std.proofs.Common.{◌-◌, refl}
use Rattle.aoe_mirror.specs.Marks.{count_of}
use Rattle.aoe_mirror.specs.Mirror.{pair}
use Rattle.aoe_serve.specs.Files.{named}
use Rattle.aoe_serve.specs.Mirroring.{IsOf}
use Rattle.aoe_serve.specs.declared.over_mirror.MirrorDisks.{MirrorDisks}
use Rattle.aoe_serve.specs.declared.over_mirror.MirrorEnd.{MirrorEnd}
use Rattle.aoe_serve.proofs.MirrorLemmas.{is_of, ran_mirror, run_told}
use Rattle.aoe_serve.proofs.over_mirror.run_over.Goals as goal

pub told-ended-requires : goal.told-ended-requires
told-ended-requires g c = c.finish-unsynced.ensures.mirror.mark.side

pub returns-clause-ran : goal.returns-clause-ran
returns-clause-ran g c =
    let state = g.D.Disk.state in
    let shelf = c.args.shelf.now in
    let ended = c.finish-unsynced.new.mirror in
    let end : MirrorEnd = record {
      end = c.run-end.result;
      unsynced = c.finish-unsynced.result;
      stale = count_of ended.sides.stale;
      follower = 1 - ended.sides.side;
    } in
    let back : MirrorDisks g.row.D.Denot = c.close.result in
    let of : IsOf state back (pair state ended) =
    is_of state ended.sides c.finish-unsynced.ensures.mirror.mark.side back c.close.ensures.disks.one c.close.ensures.disks.two c.close.ensures.disks.mark in
    rw c.told-ended.ensures.told
    (ran_mirror state (named shelf.major shelf.ports shelf.mtu c.args.minor) g.G.Given.faults g.G.Given.whole _ c.args.plan end _ _ c.args.mirror c.args.keep back
    c.seat.new.shelf.targets c.run-end.new.shelf.targets c.requires.running c.seat.ensures.targets c.run-end.ensures.run (record {
      left = c.leave-mirror.result.0;
      keep = c.leave-mirror.result.3;
      alone = c.leave-mirror.ensures.leaves;
      running = c.leave-mirror.ensures.running;
      ended = ended;
      ends = rw c.has_ended.ensures at c.finish-unsynced.ensures;
      told = record { stale = refl; follower = refl };
      crash = c.told-ended.ensures.crash;
      disks = of;
      kept = c.close.ensures.disks.keep;
      truly = c.close.ensures.truly;
    }))

pub returns-clause-link_blame : goal.returns-clause-link_blame
returns-clause-link_blame g c = rw c.told-ended.ensures.told c.run-end.ensures.link_blame

pub returns-clause-told : goal.returns-clause-told
returns-clause-told g c =
    let state = g.D.Disk.state in
    let ended = c.finish-unsynced.new.mirror in
    rw c.told-ended.ensures.told
    (run_told g.G.Given.lead c.run-end.result c.finish-unsynced.result (pair state c.leave-mirror.result.0) (pair state ended) c.leave-mirror.result.2 c.note.new.standing
    g.G.Given.told (g.W.MirrorWatch.told c.args.watch) (g.W.MirrorWatch.told c.leave-mirror.result.1) (g.W.MirrorWatch.told c.note.new.watch)
    c.requires.told c.finish-unsynced.ensures.mirror.mark.side c.leave-mirror.ensures.told c.note.ensures.tells c.note.ensures.standing)
