use Rattle.std.proofs.Common.{refl}
use Rattle.aoe_nbd_serve.proofs.DeskSteps.{flushed-one, Submitted}
use Rattle.aoe_initiator.specs.declared.op.Op.TheVariants.{Flush}
use Rattle.aoe_nbd_serve.proofs.serving.Serving.flush.Goals as goal

pub returns-clause-flushes : goal.returns-clause-flushes
returns-clause-flushes c = λ s seen most x over.
    let b = c.in-Ok.ensures in
    let sub : Submitted Flush c.in-Ok.ticket c.args.self.now.host c.submit.new.self =
    record { matches = b.matches; same = b.same.0; number = b.ticket; last = b.same.2; waiting = b.same.3; tag = b.no_tag } in
    flushed-one c.args.self.now x c.submit.new.self sub c.requires.open c.requires.rested refl c.requires.wanted over.0 over.1
