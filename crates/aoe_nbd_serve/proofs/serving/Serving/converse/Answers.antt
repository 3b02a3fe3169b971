use Rattle.std.proofs.Common.{Some, None, refl, sym, ◌∙◌}
use Rattle.aoe_block.specs.Steps.{owns}
use Rattle.aoe_nbd_serve.proofs.GuestSteps.{talked}
use Rattle.aoe_nbd_serve.proofs.serving.Serving.converse.Goals as goal

pub returns-in-Ok-clause-talks : goal.returns-in-Ok-clause-talks
returns-in-Ok-clause-talks g c = λ s seen most serves.
    (talked seen c.args.self.now serves c.in-Some.is c.end_if.ensures c.in-Ok.ensures.converses (Some c.converse.new.self) refl).0

pub returns-in-Err-clause-talks : goal.returns-in-Err-clause-talks
returns-in-Err-clause-talks g c = λ s seen most serves.
    let con = c.in-Err.ensures.converses in
    let one = talked seen c.args.self.now serves c.in-Some.is c.end_if.ensures con None refl in
    c.leave.ensures.leaves s (record seen { told = g.C.Clients.told c.converse.new.clients }) most one.0
    (λ through.
    rw one.1
    (record {
      now = c.args.self.now.time.0;
      acts = con.acts;
      ended = c.in-Err.field-0;
      talk = c.converse.new.self;
      earlier = owns serves.steps;
      order = refl;
      through = sym c.is_through-was_through.ensures ∙ through;
    }))
