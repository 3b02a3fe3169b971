use Rattle.aoe_nbd_serve.specs.Serving.{at_link}
use Rattle.aoe_nbd_serve.proofs.serving.Serving.turn.Goals as goal

pub returns-in-Err-exchange-clause-turns : goal.returns-in-Err-exchange-clause-turns
returns-in-Err-exchange-clause-turns g c = λ s seen serves.
    let link = c.args.link.now in
    let first = c.in-Ok.ensures.attends s (at_link seen (g.L.Link.turns link) (g.L.Link.given link) (g.L.Link.taken link)) 0 serves in
    c.in-Err-exchange.ensures.exchanges s (record seen { told = g.C.Clients.told c.attend.new.clients }) first

pub returns-in-Err-clause-turns : goal.returns-in-Err-clause-turns
returns-in-Err-clause-turns g c = λ s seen serves.
    let link = c.args.link.now in
    c.in-Err.ensures.attends s (at_link seen (g.L.Link.turns link) (g.L.Link.given link) (g.L.Link.taken link)) 0 serves

pub returns-after-has_attended-clause-turns : goal.returns-after-has_attended-clause-turns
returns-after-has_attended-clause-turns g c = λ s seen serves.
    let link = c.args.link.now in
    let first = c.in-Ok.ensures.attends s (at_link seen (g.L.Link.turns link) (g.L.Link.given link) (g.L.Link.taken link)) 0 serves in
    c.in-Ok-exchange.ensures.exchanges s (record seen { told = g.C.Clients.told c.attend.new.clients }) first
