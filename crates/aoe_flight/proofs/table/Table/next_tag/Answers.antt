use Rattle.std.proofs.Common.{◌≤◌, arith, refl, sym, ◌∙◌}
use Rattle.slab.specs.Slab.{values}
use Rattle.aoe_flight.proofs.TagLemmas.{passes-more}
use Rattle.aoe_flight.proofs.table.Table.next_tag.Goals as goal

pub tag_after-tag-requires-in-passed : goal.tag_after-tag-requires-in-passed
tag_after-tag-requires-in-passed c =
    let most : c.args.last ≤ 4294967295 = omega (arith, c.ranges.last.fits) in
    let taken = sym c.is_taken.ensures ∙ c.passed-test.true in
    let more = passes-more (values c.args.self.now) c.args.last c.passed.steps c.passed.tag _ c.passed.invariant most c.requires taken refl in
    omega (arith, more.1, c.requires)

pub passed-smaller : goal.passed-smaller
passed-smaller c =
    let most : c.args.last ≤ 4294967295 = omega (arith, c.ranges.last.fits) in
    let taken = sym c.is_taken.ensures ∙ c.passed-test.true in
    let more = passes-more (values c.args.self.now) c.args.last c.passed.steps c.passed.tag _ c.passed.invariant most c.requires taken refl in
    omega (arith, more.1)

pub passed-preserved : goal.passed-preserved
passed-preserved c =
    let most : c.args.last ≤ 4294967295 = omega (arith, c.ranges.last.fits) in
    let taken = sym c.is_taken.ensures ∙ c.passed-test.true in
    (passes-more (values c.args.self.now) c.args.last c.passed.steps c.passed.tag _ c.passed.invariant most c.requires taken
    c.tag_after-tag-in-passed.ensures).0
