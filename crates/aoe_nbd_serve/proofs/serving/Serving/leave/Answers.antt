use Rattle.std.proofs.Common.{ap, sym, ◌∙◌}
use Rattle.aoe_desk.specs.Desks.{left}
use Rattle.aoe_nbd_serve.specs.declared.terms.Asked.TheVariants as cause
use Rattle.aoe_nbd_serve.proofs.EndSteps.{ended-by}
use Rattle.aoe_nbd_serve.proofs.GuestSteps.{left-one}
use Rattle.aoe_nbd_serve.proofs.StepLemmas.{none-of}
use Rattle.aoe_nbd_serve.proofs.serving.Serving.leave.Goals as goal

pub returns-then-is_none-clause-leaves : goal.returns-then-is_none-clause-leaves
returns-then-is_none-clause-leaves c = λ s seen most serves gone.
    let x = c.args.self.now in
    let without = left-one x serves c.requires.nobody in
    rw c.leave.ensures
    (ended-by (record x { desk = left x.desk }) without.0 cause.Once (none-of x.asked c.if-is_none.ensures)
    (ap (λ t. t.once) (sym serves.keeps.terms_is) ∙ c.if-self.true, rw without.1 (gone c.if-was_through.true)))

pub returns-else-self-clause-leaves : goal.returns-else-self-clause-leaves
returns-else-self-clause-leaves c = λ s seen most serves gone. rw c.leave.ensures (left-one c.args.self.now serves c.requires.nobody).0
