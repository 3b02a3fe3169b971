use Rattle.aoe_nbd_serve.specs.declared.terms.ServeEnd.TheVariants as serve_end
use Rattle.aoe_nbd_serve.proofs.EndSteps.{ended-as}
use Rattle.aoe_nbd_serve.proofs.serving.Serving.attend.Goals as goal

pub returns-in-Err-clause-attends : goal.returns-in-Err-clause-attends
returns-in-Err-clause-attends g c = λ s seen most serves.
    let before = record seen { told = g.C.Clients.told c.args.clients.now } in
    let so = c.in-Err.ensures.settles s before most serves in
    c.end_of.ensures.ends s before most so.0 so.1

pub returns-in-Err-accept-clause-attends : goal.returns-in-Err-accept-clause-attends
returns-in-Err-accept-clause-attends g c = λ s seen most serves.
    let so = c.in-Ok.ensures.settles s (record seen { told = g.C.Clients.told c.args.clients.now }) most serves in
    ended-as serve_end.ClientFault (c.in-Err-accept.ensures.accepts s seen most so.0) tt

pub returns-in-Err-end-clause-attends : goal.returns-in-Err-end-clause-attends
returns-in-Err-end-clause-attends g c = λ s seen most serves.
    let so = c.in-Ok.ensures.settles s (record seen { told = g.C.Clients.told c.args.clients.now }) most serves in
    let after = record seen { told = g.C.Clients.told c.converse-has_moved.new.clients } in
    let talks = c.converse-has_moved.ensures.talks s seen most (c.in-Ok-accept.ensures.accepts s seen most so.0) in
    c.in-Err-end.ensures.ends s after most (c.submit_some-is_submitted.ensures.submits s after most talks)

pub returns-after-has_moved-clause-attends : goal.returns-after-has_moved-clause-attends
returns-after-has_moved-clause-attends g c = λ s seen most serves.
    let so = c.in-Ok.ensures.settles s (record seen { told = g.C.Clients.told c.args.clients.now }) most serves in
    let after = record seen { told = g.C.Clients.told c.converse-has_moved.new.clients } in
    let talks = c.converse-has_moved.ensures.talks s seen most (c.in-Ok-accept.ensures.accepts s seen most so.0) in
    c.in-Ok-end.ensures.ends s after most (c.submit_some-is_submitted.ensures.submits s after most talks)
