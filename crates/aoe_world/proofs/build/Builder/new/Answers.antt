use Rattle.std.proofs.Common.{◌∙◌, ap, arith}
use Rattle.aoe_world.proofs.BuildStations.{built-ready, built-staged, network}
use Rattle.aoe_world.proofs.build.Builder.new.Goals as goal

pub build-requires : goal.build-requires
build-requires c = record {
  there = rw c.lines.invariant.same (omega (arith, c.setups-count.ensures.count, c.lines-test.true));
  built = rw c.lines.invariant.same c.lines.invariant.built;
}

pub lines-preserved : goal.lines-preserved
lines-preserved c = record {
  same = ap (λ b. b.now) c.in_ok-build.ensures.script ∙ c.lines.invariant.same;
  built = rw c.lines.invariant.same at c.in_ok-build.ensures.built;
}

pub returns-in_err-build-clause-network : goal.returns-in_err-build-clause-network
returns-in_err-build-clause-network c =
    let is = c.setups-count.ensures.script in
    let script = c.args.script.now in
    network (c.layout_law.ensures.setup script is) (c.layout_law.ensures.hosts script is) (c.layout_law.ensures.shelves script is)

pub returns-clause-network : goal.returns-clause-network
returns-clause-network c =
    let is = c.setups-count.ensures.script in
    let script = c.args.script.now in
    network (c.layout_law.ensures.setup script is) (c.layout_law.ensures.hosts script is) (c.layout_law.ensures.shelves script is)

pub returns-clause-staged : goal.returns-clause-staged
returns-clause-staged c =
    built-staged c.setups-count.ensures.script (returns-clause-network c)
    (omega (arith, c.lines.auto.i-end, c.lines-test.false, c.setups-count.ensures.count)) c.lines.invariant.built

pub returns-clause-ready : goal.returns-clause-ready
returns-clause-ready c = built-ready (omega (arith, c.lines.auto.i-end, c.lines-test.false, c.setups-count.ensures.count)) c.lines.invariant.built
