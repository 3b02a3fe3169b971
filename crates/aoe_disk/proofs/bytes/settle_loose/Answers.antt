use Rattle.std.proofs.Common.{◌≡◌, ◌∙◌, ◌≤◌, ◌+◌, ◌-◌, ◌*◌, ℕ, List, false, length, take, drop, arith, rules, sym, ap, subst}
use Rattle.aoe_disk.specs.State.{with_piece, sector, is_loose}
use Rattle.aoe_disk.proofs.Losing.{SettledTo, settled_more, settled_past, settled_all}
use Rattle.aoe_disk.proofs.bytes.settle_loose.Goals as goal
use Rattle.aoe_disk.proofs.bytes.settle_loose.Goals.{then-loose-s, else-loose-s}

pub sectors-preserved : goal.sectors-preserved
sectors-preserved c =
    let P : List ℕ → Type 0 = SettledTo (c.sectors.s + 1) c.args.now.now c.args.loose.now in
    elim c.if-loose-s.branch [
      | then-loose-s w ↦
          let fits : 512 * c.sectors.s + 512 ≤ length c.args.now.now = omega (arith, c.requires.now, c.sectors-test.true) in
          let size : 512 * c.sectors.s + 512 - 512 * c.sectors.s ≡ 512 = omega arith in
          let piece : with_piece c.sectors.settled (512 * c.sectors.s)
          (take (512 * c.sectors.s + 512 - 512 * c.sectors.s) (drop (512 * c.sectors.s) c.args.now.now)) ≡ with_piece c.sectors.settled (512 * c.sectors.s)
          (sector c.args.now.now c.sectors.s) =
          ap (λ (n : ℕ). with_piece c.sectors.settled (512 * c.sectors.s) (take n (drop (512 * c.sectors.s) c.args.now.now))) size in
          subst P (sym (w.settled-is ∙ w.write_at.ensures ∙ piece))
          (settled_more c.sectors.s c.args.now.now c.args.loose.now c.sectors.settled fits c.sectors.invariant)
      | else-loose-s w ↦
          let is : is_loose c.args.loose.now c.sectors.s ≡ false = search rules in
          subst P (sym w.settled-is) (settled_past c.sectors.s c.args.now.now c.args.loose.now c.sectors.settled is c.sectors.invariant)
    ]

pub returns : goal.returns
returns c =
    let all : c.sectors.s ≡ length c.args.loose.now = omega (arith, c.sectors-test.false, c.sectors.auto.s-end) in
    settled_all (length c.args.loose.now) c.args.now.now c.args.loose.now c.sectors.settled c.requires.now
    (subst (λ (n : ℕ). SettledTo n c.args.now.now c.args.loose.now c.sectors.settled) all c.sectors.invariant)
