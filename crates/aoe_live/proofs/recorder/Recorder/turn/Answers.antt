use Rattle.std.proofs.Common.{◌∙◌, not, ap}
use Rattle.std.specs.Prelude.{◌==◌}
use Rattle.aoe_live.specs.declared.tally.Tally.{Tally}
use Rattle.aoe_live.specs.Steps.{links}
use Rattle.aoe_live.specs.Tally.{tally_of}
use Rattle.aoe_live.proofs.TurnLemmas.{ask-fails, exchange-fails, is-taken}
use Rattle.aoe_live.proofs.recorder.Recorder.turn.Goals as goal

pub returns-in-Ok-ask-clause-taken : goal.returns-in-Ok-ask-clause-taken
returns-in-Ok-ask-clause-taken g c =
    let time = c.in-Ok.ensures in
    let x = c.in-Ok-exchange.ensures in
    is-taken c.args.turns c.args.ms c.args.self.now c.pass_time.new.self (links g.L.Link.turns g.L.Link.given g.L.Link.taken c.args.one.now c.args.two.now)
    (links g.L.Link.turns g.L.Link.given g.L.Link.taken c.pass_time.new.one c.pass_time.new.two)
    time.steps.whole time.steps.sectors time.steps.commands time.kept.tally c.if-self.false c.exchange.new.self
    (links g.L.Link.turns g.L.Link.given g.L.Link.taken c.exchange.new.one c.exchange.new.two)
    x.exchanges.whole x.exchanges.sectors x.exchanges.commands x.kept.tally c.ask.new.self
    (links g.L.Link.turns g.L.Link.given g.L.Link.taken c.ask.new.one c.ask.new.two)
    c.in-Ok-ask.ensures.steps.whole
    _ (ap (λ (t : Tally). not (t.ended == c.args.self.now.tally.ended)) c.in-Ok-ask.ensures.kept.tally
    ∙ ap (λ (t : Tally). not ((tally_of c.ask.new.self.world.entries).ended == t.ended)) c.requires.kept.tally)

pub returns-in-Err-ask-clause-ends : goal.returns-in-Err-ask-clause-ends
returns-in-Err-ask-clause-ends g c =
    let time = c.in-Ok.ensures in
    let x = c.in-Ok-exchange.ensures in
    ask-fails c.args.turns c.args.ms c.args.self.now c.pass_time.new.self (links g.L.Link.turns g.L.Link.given g.L.Link.taken c.args.one.now c.args.two.now)
    (links g.L.Link.turns g.L.Link.given g.L.Link.taken c.pass_time.new.one c.pass_time.new.two)
    time.steps.whole time.steps.sectors time.steps.commands time.kept.tally c.if-self.false c.exchange.new.self
    (links g.L.Link.turns g.L.Link.given g.L.Link.taken c.exchange.new.one c.exchange.new.two)
    x.exchanges.whole x.exchanges.sectors x.exchanges.commands x.kept.tally c.ask.new.self
    (links g.L.Link.turns g.L.Link.given g.L.Link.taken c.ask.new.one c.ask.new.two)
    c.in-Err-ask.refusal c.in-Err-ask.ensures.steps

pub returns-in-Err-exchange-clause-ends : goal.returns-in-Err-exchange-clause-ends
returns-in-Err-exchange-clause-ends g c =
    let time = c.in-Ok.ensures in
    exchange-fails c.args.turns c.args.ms c.args.self.now c.pass_time.new.self
    (links g.L.Link.turns g.L.Link.given g.L.Link.taken c.args.one.now c.args.two.now)
    (links g.L.Link.turns g.L.Link.given g.L.Link.taken c.pass_time.new.one c.pass_time.new.two)
    time.steps.whole time.steps.sectors time.steps.commands time.kept.tally c.if-self.false c.exchange.new.self
    (links g.L.Link.turns g.L.Link.given g.L.Link.taken c.exchange.new.one c.exchange.new.two)
    c.in-Err-exchange.refusal c.in-Err-exchange.ensures.exchanges
