use Rattle.std.proofs.Common.{◌≡◌, ◌≤◌, ◌++◌, ◌+◌, ◌-◌, ◌∙◌, ap, arith, is_err, length, drop}
use Rattle.std.proofs.lemmas.List.{length-append, length-drop, length-take-le}
use Rattle.aoe_mirror.specs.Sides.{pair_of}
use Rattle.aoe_mirror.proofs.Cleaning.{marked_next}
use Rattle.aoe_mirror.proofs.Copying.{copied_fewer}
use Rattle.aoe_mirror.proofs.mirror.Mirror.resync.Goals as goal
use Rattle.aoe_mirror.proofs.mirror.Mirror.resync.Goals.{in-Ok, in-Err}

pub returns-clause-fewer : goal.returns-clause-fewer
returns-clause-fewer g c = elim c.match-copied.branch [
  | in-Ok w ↦ rw (w.result-is, ← c.self.view_is) (λ some.
      let fewer = copied_fewer c.self.inside.next c.resync-next.result.0 (pair_of g.D.Disk.state c.self.inside.sides)
      (pair_of g.D.Disk.state c.resync-next.new.self) (rw (ap is_err w.in-Ok.is) at c.resync-next.ensures.copies) some in
      omega (arith, w.count.ensures.count, fewer))
  | in-Err w ↦ rw w.result-is tt
]

pub invariant_of-self : goal.invariant_of-self
invariant_of-self g c =
    let room = c.self.inside.scratch in
    let now = c.resync-next.new.scratch ++ drop (length c.resync-next.new.scratch) room.items in
    let size : length now ≡ length c.resync-next.new.scratch + (length room.items - length c.resync-next.new.scratch) =
    length-append c.resync-next.new.scratch (drop (length c.resync-next.new.scratch) room.items)
    ∙ ap (λ n. length c.resync-next.new.scratch + n) (length-drop (length c.resync-next.new.scratch) room.items) in
    let fits : room.len ≤ length now = omega (arith, size, room.ok.0) in
    record {
      mirror = c.resync-next.ensures.mirror;
      marked = marked_next c.self.inside.clean c.self.inside.next c.resync-next.result.0 (is_err c.resync-next.result.1)
          (pair_of g.D.Disk.state c.self.inside.sides) (pair_of g.D.Disk.state c.resync-next.new.self) c.self.invariant.marked c.resync-next.ensures.copies;
      scratch = length-take-le room.len now fits ∙ omega (arith, room.ok.0, c.self.invariant.scratch);
    }
