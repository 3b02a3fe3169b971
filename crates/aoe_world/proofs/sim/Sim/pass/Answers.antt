use Rattle.std.proofs.Common.{add-one, inl, inr, arith}
use Rattle.aoe_world.proofs.PassLemmas.{passed-begun, passed-by, passing-next, passing-none}
use Rattle.aoe_world.proofs.sim.Sim.pass.Goals as goal

pub passed-init : goal.passed-init
passed-init c = record { there = c.requires; passing = λ s majors stations net ready are first within. passing-none ready first within }

pub returns-in-Err : goal.returns-in-Err
returns-in-Err c s majors stations net ready are first within =
    let p = c.passed.invariant.passing s majors stations net ready are first within in
    passed-begun p c.args.n c.passed-test.true (omega arith) (c.in-Err.ensures s majors stations net p.ready are)

pub returns-then-cursor-frames : goal.returns-then-cursor-frames
returns-then-cursor-frames c s majors stations net ready are first within =
    passed-by (c.passed.invariant.passing s majors stations net ready are first within) c.args.n
    (inr (c.passed-test.true, omega (arith, c.frames.ensures.count, c.if-cursor-frames.true)))

pub passed-preserved : goal.passed-preserved
passed-preserved c =
    let r = c.passed.invariant.there in
    record {
      there = record {
        setup = r.setup;
        majors = r.majors;
        stations = r.stations;
        network_is = r.network_is;
        ready = (c.in-Ok.ensures r.setup r.majors r.stations r.network_is r.ready r.places_are).1;
        places_are = r.places_are;
      };
      passing = λ s majors stations net ready are first within.
          let p = c.passed.invariant.passing s majors stations net ready are first within in
          rw (add-one c.passed.counter, add-one c.passed.cursor) (passing-next p (omega arith) (c.in-Ok.ensures s majors stations net p.ready are));
    }

pub returns : goal.returns
returns c s majors stations net ready are first within =
    passed-by (c.passed.invariant.passing s majors stations net ready are first within) c.args.n (inl (omega arith))
