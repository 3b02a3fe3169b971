use Rattle.std.proofs.Common.{ap}
use Rattle.aoe_io.specs.Link.{turn_of}
use Rattle.aoe_live.specs.declared.frames.Sender.TheVariants as sender
use Rattle.aoe_live.specs.Lines.{handing}
use Rattle.aoe_live.specs.Steps.{links}
use Rattle.aoe_live.proofs.StepLemmas.{recorded-as, steps-as}
use Rattle.aoe_live.proofs.TurnLemmas.{asked-one, asked-two, exchange-does, exchange-fails-first}
use Rattle.aoe_live.proofs.recorder.Recorder.exchange.Goals as goal

pub returns-in-Err-clause-exchanges : goal.returns-in-Err-clause-exchanges
returns-in-Err-clause-exchanges g c =
    let p = c.args.self.now in
    let h = p.world.entries in
    let first = turn_of c.in-Ok.got c.recv.new.out.items in
    let before = links g.L.Link.turns g.L.Link.given g.L.Link.taken c.args.one.now c.args.two.now in
    let asked = links g.L.Link.turns g.L.Link.given g.L.Link.taken c.recv.new.self c.args.two.now in
    let after = links g.L.Link.turns g.L.Link.given g.L.Link.taken c.hand.new.one c.hand.new.two in
    let over = asked-one h before.one asked.one before.two first c.in-Ok.ensures.gave c.recv.ensures.passing c.in-Ok.ensures.turns c.recv.ensures.taken in
    let same = ap (λ bytes. handing sender.Host (turn_of c.in-Ok.got bytes) h) c.as_slice.ensures.value in
    exchange-fails-first p c.hand.new.self before asked after first over c.in-Err.refusal
    (steps-as _ _ (handing sender.Host first h) p c.hand.new.self asked after same c.in-Err.ensures.steps)

pub returns-clause-exchanges : goal.returns-clause-exchanges
returns-clause-exchanges g c =
    let p = c.args.self.now in
    let q = c.hand.new.self in
    let r = c.hand-2.new.self in
    let first = turn_of c.in-Ok.got c.recv.new.out.items in
    let second = turn_of c.in-Ok-recv.got c.recv-2.new.out.items in
    let before = links g.L.Link.turns g.L.Link.given g.L.Link.taken c.args.one.now c.args.two.now in
    let asked = links g.L.Link.turns g.L.Link.given g.L.Link.taken c.recv.new.self c.args.two.now in
    let mid = links g.L.Link.turns g.L.Link.given g.L.Link.taken c.hand.new.one c.hand.new.two in
    let asked_too = links g.L.Link.turns g.L.Link.given g.L.Link.taken c.hand.new.one c.recv-2.new.self in
    let after = links g.L.Link.turns g.L.Link.given g.L.Link.taken c.hand-2.new.one c.hand-2.new.two in
    let over =
    asked-one p.world.entries before.one asked.one before.two first c.in-Ok.ensures.gave c.recv.ensures.passing c.in-Ok.ensures.turns c.recv.ensures.taken in
    let over_too = asked-two q.world.entries mid.two asked_too.two mid.one second c.in-Ok-recv.ensures.gave c.recv-2.ensures.passing c.in-Ok-recv.ensures.turns
    c.recv-2.ensures.taken in
    let same = ap (λ bytes. handing sender.Host (turn_of c.in-Ok.got bytes) p.world.entries) c.as_slice.ensures.value in
    let same_too = ap (λ bytes. handing sender.Shelf (turn_of c.in-Ok-recv.got bytes) q.world.entries) c.as_slice-2.ensures.value in
    exchange-does p q before asked mid first over
    (recorded-as _ _ _ (handing sender.Host first p.world.entries) p q asked mid same c.in-Ok-hand.ensures.steps.whole)
    c.in-Ok-hand.ensures.steps.sectors c.in-Ok-hand.ensures.steps.commands r asked_too after second over_too c.hand-2.result
    (steps-as c.hand-2.result _ (handing sender.Shelf second q.world.entries) q r asked_too after same_too c.hand-2.ensures.steps)
