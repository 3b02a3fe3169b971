use Rattle.aoe_world.proofs.ActLemmas.{entered-from, lose-as-hand}
use Rattle.aoe_world.proofs.PlaceLemmas.{station-only}
use Rattle.aoe_world.proofs.ScheduleLemmas.{ready-same}
use Rattle.aoe_world.proofs.sim.Sim.hand.Goals as goal

pub returns-then-not-fetch : goal.returns-then-not-fetch
returns-then-not-fetch c s majors station net ready at_is =
    lose-as-hand c.lose.result s majors c.args.frame.0 station c.args.self.now c.lose.new.self (rw ready.life at (c.fetch.ensures.none c.if-not-fetch.true))
    (entered-from c.lose.result s majors _ c.args.self.now c.fetch.new.self c.lose.new.self (rw c.fetch.ensures.same)
    (c.lose.ensures s majors net (ready-same c.fetch.ensures.same ready)))

pub returns-in-Shelf : goal.returns-in-Shelf
returns-in-Shelf c s majors station net ready at_is =
    let is = station-only s majors c.args.to station at_is in
    let fresh = c.fetch.ensures.fetched c.if-not-fetch.false in
    rw (← is, c.in-Shelf.is) (entered-from c.hand_to_shelf.result s majors _ c.args.self.now c.fetch.new.self c.hand_to_shelf.new.self (rw c.fetch.ensures.same)
    (c.hand_to_shelf.ensures s majors _ net (ready-same c.fetch.ensures.same ready) (rw (← is, c.in-Shelf.is) at at_is) (rw c.fetch.ensures.same fresh)))

pub returns-in-Host : goal.returns-in-Host
returns-in-Host c s majors station net ready at_is =
    let is = station-only s majors c.args.to station at_is in
    let fresh = c.fetch.ensures.fetched c.if-not-fetch.false in
    rw (← is, c.in-Host.is) (entered-from c.hand_to_host.result s majors _ c.args.self.now c.fetch.new.self c.hand_to_host.new.self (rw c.fetch.ensures.same)
    (c.hand_to_host.ensures s majors _ net (ready-same c.fetch.ensures.same ready) (rw (← is, c.in-Host.is) at at_is) (rw c.fetch.ensures.same fresh)))
