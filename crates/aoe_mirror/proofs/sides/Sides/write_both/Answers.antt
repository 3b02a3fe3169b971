use Rattle.std.proofs.Common.{ap, is_err, inl, inr, refl, subst, sym, Ok}
use Rattle.aoe_mirror.specs.Sides.{pair_of}
use Rattle.aoe_mirror.specs.Calls.{MirrorWrites}
use Rattle.aoe_mirror.proofs.Writing.{halted_writes, swapped_writes, through_writes}
use Rattle.aoe_mirror.proofs.sides.Sides.write_both.Goals as goal

pub returns-in-Ok-clause-writes : goal.returns-in-Ok-clause-writes
returns-in-Ok-clause-writes g c =
    let old = pair_of g.D.Disk.state c.args.self.now in
    let f = c.follow.ensures in
    subst (MirrorWrites c.args.at c.args.piece.now (Ok tt) old) (sym f.is)
    (through_writes c.args.at c.args.piece.now old c.requires.mirror c.requires.range (g.D.Disk.state c.write.new.self) c.write.result
    (ap is_err c.in-Ok.is) c.write.ensures f.answer f.written f.write (Ok tt) refl c.requires.settled)

pub returns-in-Err-clause-writes : goal.returns-in-Err-clause-writes
returns-in-Err-clause-writes g c =
    let old = pair_of g.D.Disk.state c.args.self.now in
    let new = pair_of g.D.Disk.state c.fall_over.new.self in
    let lead = g.D.Disk.state c.write.new.self in
    elim c.fall_over.ensures.falls [
      | inl h ↦ subst (MirrorWrites c.args.at c.args.piece.now c.fall_over.result old) (sym h.is)
          (halted_writes c.args.at c.args.piece.now old c.requires.mirror c.requires.range lead c.write.result
          (ap is_err c.in-Err.is) c.write.ensures new.follower h.follower c.fall_over.result h.failed)
      | inr s ↦ swapped_writes c.args.at c.args.piece.now old c.requires.mirror c.requires.range lead c.write.result (ap is_err c.in-Err.is) c.write.ensures
          (is_err c.fall_over.result) new s c.fall_over.result refl
    ]
