use Rattle.std.proofs.Common.{◌≡◌, ◌∷◌, suc, sym, ap, subst, ◌∙◌}
use Rattle.aoe_initiator.specs.declared.outcome.Done.{Done}
use Rattle.aoe_initiator.specs.declared.outcome.Outcome.{Outcome}
use Rattle.aoe_copy.specs.Window.{read_done, HasAll}
use Rattle.aoe_copy.proofs.WindowLemmas.{past-all}
use Rattle.aoe_copy.proofs.window.Window.settle.Goals as goal

pub returns-in-Read-clause-all : goal.returns-in-Read-clause-all
returns-in-Read-clause-all c = λ outs waiting most all.
    let d = c.args.done in
    let w = c.args.self.now in
    let is : d ≡ read_done d.ticket.0 c.in-Read.bytes = ap (λ (o : Outcome). let e : Done = record { ticket = d.ticket; outcome = o } in e) c.in-Read.is in
    c.put.ensures.all outs waiting (most c.in-Read.bytes is) (subst (λ (e : Done). HasAll outs (e ∷ waiting) (suc w.given) w.slots.items) is all)

pub returns-in-Written-clause-all : goal.returns-in-Written-clause-all
returns-in-Written-clause-all c = λ outs waiting most all.
    past-all outs waiting c.args.done (suc c.args.self.now.given) c.args.self.now.slots.items
    (λ m bytes later same. absurd (let e = sym c.in-Written.is ∙ ap (λ (d : Done). d.outcome) same in cc)) all

pub returns-in-Flushed-clause-all : goal.returns-in-Flushed-clause-all
returns-in-Flushed-clause-all c = λ outs waiting most all.
    past-all outs waiting c.args.done (suc c.args.self.now.given) c.args.self.now.slots.items
    (λ m bytes later same. absurd (let e = sym c.in-Flushed.is ∙ ap (λ (d : Done). d.outcome) same in cc)) all

pub returns-in-Told-clause-all : goal.returns-in-Told-clause-all
returns-in-Told-clause-all c = λ outs waiting most all.
    past-all outs waiting c.args.done (suc c.args.self.now.given) c.args.self.now.slots.items
    (λ m bytes later same. absurd (let e = sym c.in-Told.is ∙ ap (λ (d : Done). d.outcome) same in cc)) all

pub returns-in-AoeError-clause-all : goal.returns-in-AoeError-clause-all
returns-in-AoeError-clause-all c = λ outs waiting most all.
    past-all outs waiting c.args.done (suc c.args.self.now.given) c.args.self.now.slots.items
    (λ m bytes later same. absurd (let e = sym c.in-AoeError.is ∙ ap (λ (d : Done). d.outcome) same in cc)) all

pub returns-in-AtaError-clause-all : goal.returns-in-AtaError-clause-all
returns-in-AtaError-clause-all c = λ outs waiting most all.
    past-all outs waiting c.args.done (suc c.args.self.now.given) c.args.self.now.slots.items
    (λ m bytes later same. absurd (let e = sym c.in-AtaError.is ∙ ap (λ (d : Done). d.outcome) same in cc)) all

pub returns-in-GaveUp-clause-all : goal.returns-in-GaveUp-clause-all
returns-in-GaveUp-clause-all c = λ outs waiting most all.
    past-all outs waiting c.args.done (suc c.args.self.now.given) c.args.self.now.slots.items
    (λ m bytes later same. absurd (let e = sym c.in-GaveUp.is ∙ ap (λ (d : Done). d.outcome) same in cc)) all
