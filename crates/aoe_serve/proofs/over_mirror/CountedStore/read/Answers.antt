use Rattle.std.proofs.Common.{◌/◌, length}
use Rattle.aoe_mirror.specs.Mirror.{pair}
use Rattle.aoe_mirror.proofs.Covering.{read_cause, run_then, stored_reads}
use Rattle.aoe_serve.proofs.MirrorLemmas.{tells_still}
use Rattle.aoe_serve.proofs.over_mirror.CountedStore.read.Goals as goal

pub invariant_of-self : goal.invariant_of-self
invariant_of-self g c =
    let old = pair g.D.Disk.state c.self.inside.mirror in
    let new = pair g.D.Disk.state c.read.new.self in
    let m = c.read.ensures.mirror in (
      run_then g.G.Given.faults g.G.Given.whole old new m.mirror m.counts m.keeps c.self.invariant.0,
      tells_still g.G.Given.lead old new c.self.inside.standing g.G.Given.told (g.W.MirrorWatch.told c.self.inside.watch) c.self.invariant.1 m.side m.stale,
    )

pub returns-clause-reads : goal.returns-clause-reads
returns-clause-reads g c =
    let old = pair g.D.Disk.state c.self.inside.mirror in
    let new = pair g.D.Disk.state c.read.new.self in
    let m = c.read.ensures.mirror in
    rw (← c.self.view_is) (stored_reads g.G.Given.faults g.G.Given.whole old new c.self.invariant.0 m.counts c.args.at (length c.args.out.now) c.read.result
    c.read.new.out (λ bad. read_cause c.args.at (length c.args.out.now / 512) old new (m.cause bad)) m.reads)
