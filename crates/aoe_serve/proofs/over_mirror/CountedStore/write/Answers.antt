use Rattle.aoe_mirror.specs.Mirror.{pair}
use Rattle.aoe_mirror.proofs.Covering.{run_then, stored_stores}
use Rattle.aoe_serve.proofs.MirrorLemmas.{tells_on, tells_side}
use Rattle.aoe_serve.proofs.over_mirror.CountedStore.write.Goals as goal

pub note-requires : goal.note-requires
note-requires g c = tells_side g.G.Given.lead (pair g.D.Disk.state c.self.inside.mirror) c.self.inside.standing g.G.Given.told (g.W.MirrorWatch.told c.self.inside.watch)
    c.self.invariant.1 c.self.invariant.0.since.mirror.mark.side

pub invariant_of-self : goal.invariant_of-self
invariant_of-self g c =
    let old = pair g.D.Disk.state c.self.inside.mirror in
    let new = pair g.D.Disk.state c.write-written.new.self in
    let m = c.write-written.ensures.mirror in (
      run_then g.G.Given.faults g.G.Given.whole old new m.mirror m.counts m.keeps c.self.invariant.0,
      tells_on g.G.Given.lead old new c.self.inside.standing c.note.new.standing g.G.Given.told (g.W.MirrorWatch.told c.self.inside.watch)
          (g.W.MirrorWatch.told c.note.new.watch) c.self.invariant.1 c.note.ensures.tells c.note.ensures.standing,
    )

pub returns-clause-stores : goal.returns-clause-stores
returns-clause-stores g c =
    let old = pair g.D.Disk.state c.self.inside.mirror in
    let new = pair g.D.Disk.state c.write-written.new.self in
    let m = c.write-written.ensures.mirror in
    rw (← c.self.view_is) (stored_stores g.G.Given.faults g.G.Given.whole old new c.self.invariant.0 m.counts c.args.at c.args.piece.now c.write-written.result m.cause m.stores)
