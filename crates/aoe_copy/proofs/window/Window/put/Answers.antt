use Rattle.std.proofs.Common.{suc, ap, arith, inl, inr}
use Rattle.aoe_initiator.specs.declared.outcome.Done.{Done}
use Rattle.aoe_copy.specs.Window.{read_done}
use Rattle.aoe_copy.proofs.WindowLemmas.{past-all, put-all, put-there}
use Rattle.aoe_copy.proofs.window.Window.put.Goals as goal

pub returns-clause-there : goal.returns-clause-there
returns-clause-there c = λ outs came there.
    let at = c.in-Some.ensures.some in
    put-there outs (suc c.args.self.now.given) c.in-Some.place c.args.bytes c.args.self.now.slots.items at.0 (rw at.1 at came) there

pub returns-clause-all : goal.returns-clause-all
returns-clause-all c = λ outs waiting most all.
    let at = c.in-Some.ensures.some in
    put-all outs waiting (suc c.args.self.now.given) c.in-Some.place c.args.ticket.0 c.args.bytes c.args.self.now.slots.items at.1 at.0 all

pub returns-in_default-clause-all : goal.returns-in_default-clause-all
returns-in_default-clause-all c = λ outs waiting most all.
    past-all outs waiting (read_done c.args.ticket.0 c.args.bytes) (suc c.args.self.now.given) c.args.self.now.slots.items
    (λ m bytes later same.
    let own = ap (λ (d : Done). d.ticket.0) same in
    elim c.in_default.ensures.none [ inl below ↦ omega (arith, own, later, below) | inr past ↦ omega (arith, past, most) ])
    all
