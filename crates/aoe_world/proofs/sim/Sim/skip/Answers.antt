use Rattle.std.proofs.Common.{add-one, inl, inr, refl, Ok, Err, arith}
use Rattle.aoe_history.specs.Groups.Act.{Lose}
use Rattle.aoe_world.proofs.PassLemmas.{passed-begun, passed-by, passing-next, passing-none}
use Rattle.aoe_world.proofs.ScheduleLemmas.{does-all}
use Rattle.aoe_world.proofs.sim.Sim.skip.Goals as goal

pub skipped-init : goal.skipped-init
skipped-init c s majors net ready first within = passing-none ready first within

pub returns-in-Err : goal.returns-in-Err
returns-in-Err c s majors net ready first within =
    let p = c.skipped.invariant s majors net ready first within in
    passed-begun p c.args.n c.skipped-test.true (omega arith)
    (does-all {T = Unit {0}} (Err c.in-Err.refusal) s majors (Lose c.skipped.cursor) c.skipped.self c.skipped.self c.act.new.self refl
    (c.in-Err.ensures s majors net p.ready tt))

pub returns-then-cursor-frames : goal.returns-then-cursor-frames
returns-then-cursor-frames c s majors net ready first within =
    passed-by (c.skipped.invariant s majors net ready first within) c.args.n
    (inr (c.skipped-test.true, omega (arith, c.frames.ensures.count, c.if-cursor-frames.true)))

pub skipped-preserved : goal.skipped-preserved
skipped-preserved c s majors net ready first within =
    let p = c.skipped.invariant s majors net ready first within in
    rw (add-one c.skipped.counter, add-one c.skipped.cursor) (passing-next p (omega arith)
    (does-all {T = Unit {0}} (Ok tt) s majors (Lose c.skipped.cursor) c.skipped.self c.skipped.self c.act.new.self refl
    (c.in-Ok.ensures s majors net p.ready tt)))

pub returns : goal.returns
returns c s majors net ready first within = passed-by (c.skipped.invariant s majors net ready first within) c.args.n (inl (omega arith))
