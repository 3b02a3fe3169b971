use Rattle.std.proofs.Common.{refl}
use Rattle.aoe_block.proofs.StepLemmas.{Advanced}
use Rattle.aoe_nbd_serve.proofs.BeginLemmas.{begun}
use Rattle.aoe_nbd_serve.proofs.serving.Serving.new.Goals as goal

pub returns-clause-serves : goal.returns-clause-serves
returns-clause-serves c = λ seen later told.
    let a = c.advance.ensures in
    let r = c.requires in
    let adv : Advanced c.args.host c.advance.new.self c.args.first.0 =
    record { gives_up = a.gives_up; clock_is = a.clock; same = a.same; last = a.last; tag = a.no_tag } in
    begun r.new _ c.args.first.0 adv seen later told refl refl refl r.desk r.some r.most refl refl refl refl refl refl
