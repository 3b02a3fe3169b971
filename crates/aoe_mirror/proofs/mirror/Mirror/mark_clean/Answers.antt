use Rattle.std.proofs.Common.{◌≡◌, ◌<◌, ap, is_err, refl, arith}
use Rattle.aoe_mirror.specs.Marks.{count_of}
use Rattle.aoe_mirror.specs.Sides.{pair_of}
use Rattle.aoe_mirror.proofs.Cleaning.{said_clean, said_marks}
use Rattle.aoe_mirror.proofs.mirror.Mirror.mark_clean.Goals as goal

pub invariant_of-self : goal.invariant_of-self
invariant_of-self g c =
    let old = pair_of g.D.Disk.state c.self.inside.sides in
    let new = pair_of g.D.Disk.state c.say.new.self in
    let none : count_of c.self.inside.sides.stale ≡ 0 = omega (arith, c.count.ensures.count, c.if-count-gt0.false) in
    let room : 1 < (g.D.Disk.state c.self.inside.sides.mark).sectors = omega (arith, c.sectors.ensures.count, c.if-sectors-lt2.false) in
    record {
      mirror = (said_marks old new c.self.invariant.mirror (ap (pair_of g.D.Disk.state) c.say.ensures.is) (is_err c.say.result) c.say.ensures.settles none c.if-not-self.false room c.say.result
          refl c.say.ensures.says).mirror;
      marked = said_clean old new c.self.invariant.mirror (ap (pair_of g.D.Disk.state) c.say.ensures.is) (is_err c.say.result) c.say.ensures.settles none c.if-not-self.false room
          (rw (← c.self.view_is) at c.requires);
      scratch = c.self.invariant.scratch;
    }
