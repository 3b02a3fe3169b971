use Rattle.std.proofs.Common.{refl, ◌∙◌, arith}
use Rattle.aoe_block.proofs.StepLemmas.{Advanced}
use Rattle.aoe_nbd_serve.proofs.HostSteps.{ticked}
use Rattle.aoe_nbd_serve.proofs.StepLemmas.{attached-same}
use Rattle.aoe_nbd_serve.proofs.serving.Serving.tick.Goals as goal

pub returns-clause-fit : goal.returns-clause-fit
returns-clause-fit c =
    let f = c.requires in
    let a = c.advance.ensures in
    record {
      attached = attached-same a.same f.attached;
      tickets = a.last ∙ f.tickets;
      low = omega (arith, a.last, f.low);
      size = f.size;
      lies = f.lies;
    }

pub returns-clause-ticks : goal.returns-clause-ticks
returns-clause-ticks c = λ s seen later most told serves.
    let a = c.advance.ensures in
    let adv : Advanced c.args.self.now.host c.advance.new.self c.args.time.0 =
    record { gives_up = a.gives_up; clock_is = a.clock; same = a.same; last = a.last; tag = a.no_tag } in
    ticked adv
    (record { terms = refl; desk = refl; conversation = refl; has_written = refl; asked = refl; last = refl; waits = refl; served = refl }) refl refl told serves
