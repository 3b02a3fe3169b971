use Rattle.std.proofs.Common.{refl}
use Rattle.aoe_nbd_serve.proofs.HostSteps.{heard-by}
use Rattle.aoe_nbd_serve.proofs.StepLemmas.{IsAlike}
use Rattle.aoe_nbd_serve.proofs.serving.Serving.hear_one.Goals as goal

pub returns-clause-hears : goal.returns-clause-hears
returns-clause-hears g c = λ s seen most serves.
    let a = c.hear.ensures in
    let alike : IsAlike c.args.self.now (record c.args.self.now { host = c.hear.new.host; frame = c.hear.new.frame }) =
    record { terms = refl; desk = refl; conversation = refl; has_written = refl; asked = refl; last = refl; waits = refl; served = refl } in
    heard-by seen _ _ alike refl refl a.taken serves c.hear.result a.turn a.err
