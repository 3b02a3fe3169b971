use Rattle.std.proofs.Common.{refl, sym, arith, ◌∙◌}
use Rattle.aoe_copy.proofs.OtherLemmas.{all-same, first-other, other-one, same-more, same-one}
use Rattle.aoe_copy.proofs.again.first_other.Goals as goal

pub sectors-init : goal.sectors-init
sectors-init c = refl

pub returns-then-ne-clause-some : goal.returns-then-ne-clause-some
returns-then-ne-clause-some c =
    let s = c.args.sent.now in
    let b = c.args.back.now in
    first-other s b c.sectors.k c.sectors.invariant c.sectors-test.true (other-one s b c.sectors.k (sym c.ne.ensures ∙ c.if-ne.true))

pub sectors-preserved : goal.sectors-preserved
sectors-preserved c =
    let s = c.args.sent.now in
    let b = c.args.back.now in
    same-more s b c.sectors.k c.sectors.invariant (same-one s b c.sectors.k (sym c.ne.ensures ∙ c.if-ne.false))

pub returns-clause-none : goal.returns-clause-none
returns-clause-none c =
    all-same c.args.sent.now c.args.back.now c.sectors.k c.sectors.invariant c.requires.long c.requires.whole
    (omega (arith, c.sectors-test.false, c.sectors.auto.k-end))
