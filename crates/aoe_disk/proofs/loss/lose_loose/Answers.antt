use Rattle.std.proofs.Common.{◌≡◌, ◌∙◌, ◌≤◌, ◌+◌, ◌*◌, ℕ, List, true, false, length, arith, rules, sym, subst}
use Rattle.aoe_disk.specs.State.{is_loose}
use Rattle.aoe_disk.proofs.Losing.{LeftTo, left_more, left_past}
use Rattle.aoe_disk.proofs.loss.lose_loose.Goals as goal
use Rattle.aoe_disk.proofs.loss.lose_loose.Goals.{then-loose-s, else-loose-s}

pub sectors-preserved : goal.sectors-preserved
sectors-preserved c =
    let P : List ℕ → Type 0 = LeftTo (c.sectors.s + 1) c.args.how c.args.now.now c.args.settled.now c.args.loose.now in
    elim c.if-loose-s.branch [
      | then-loose-s w ↦
          let is : is_loose c.args.loose.now c.sectors.s ≡ true = search rules in
          let now : 512 * c.sectors.s + 512 ≤ length c.args.now.now = omega (arith, c.requires.now, c.sectors-test.true) in
          let settled : 512 * c.sectors.s + 512 ≤ length c.args.settled.now = omega (arith, c.requires.settled, c.sectors-test.true) in
          subst P (sym (w.now-is ∙ w.lose_at.ensures))
          (left_more c.sectors.s c.args.how c.args.now.now c.args.settled.now c.args.loose.now c.sectors.now now settled is c.sectors.invariant)
      | else-loose-s w ↦
          let is : is_loose c.args.loose.now c.sectors.s ≡ false = search rules in
          subst P (sym w.now-is) (left_past c.sectors.s c.args.how c.args.now.now c.args.settled.now c.args.loose.now c.sectors.now is c.sectors.invariant)
    ]
