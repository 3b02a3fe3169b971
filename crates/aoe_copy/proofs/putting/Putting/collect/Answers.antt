use Rattle.aoe_block.specs.Steps.{outcomes}
use Rattle.aoe_block.proofs.StepLemmas.{Advanced}
use Rattle.aoe_copy.proofs.PutTurnLemmas.{ends-by, keeps-taken, stands-taken, ticked}
use Rattle.aoe_copy.proofs.putting.Putting.collect.Goals as goal

pub returns-in-Ok-clause-collects : goal.returns-in-Ok-clause-collects
returns-in-Ok-clause-collects c = λ s seen left later steps told stands keeps order may.
    let a = c.advance.ensures in
    let adv : Advanced c.args.self.now.host c.advance.new.self c.args.now =
    record { gives_up = a.gives_up; clock_is = a.clock; same = a.same; last = a.last; tag = a.no_tag } in
    let t = ticked adv told stands keeps order may in
    let all = c.take_all.ensures in
    let taken = c.in-Ok.ensures.takes (outcomes t.steps') t.order in
    record {
      steps' = t.steps';
      stands = stands-taken (record c.args.self.now { host = c.advance.new.self }) t.stands all.same;
      keeps = keeps-taken t.keeps all.host all.same all.matches;
      waiting = taken.0;
      goes_on = taken.1;
      quiet_is = t.quiet_is;
      ticked = t.ticked;
      left_is = t.left_is;
    }

pub returns-in-Err-clause-collects : goal.returns-in-Err-clause-collects
returns-in-Err-clause-collects c = λ s seen left later steps told stands keeps order may.
    let a = c.advance.ensures in
    let adv : Advanced c.args.self.now.host c.advance.new.self c.args.now =
    record { gives_up = a.gives_up; clock_is = a.clock; same = a.same; last = a.last; tag = a.no_tag } in
    let t = ticked adv told stands keeps order may in
    ends-by c.args.turns may.turns_are c.in-Err.refusal t.stands (c.in-Err.ensures.takes (outcomes t.steps') t.order)
