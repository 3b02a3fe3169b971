use Rattle.std.proofs.Common.{◌∙◌, sym, ap}
use Rattle.aoe_live.specs.declared.recorder.Recorder.{Recorder}
use Rattle.aoe_live.specs.Steps.{links}
use Rattle.aoe_live.specs.Tally.{tally_of}
use Rattle.aoe_live.proofs.LineLemmas.{line-tail}
use Rattle.aoe_live.specs.declared.frames.Sender.TheVariants as sender
use Rattle.aoe_live.proofs.PassLemmas.{carried, looked-at, looked-within}
use Rattle.aoe_live.proofs.StepLemmas.{line-comes-on, line-fails}
use Rattle.aoe_live.proofs.recorder.Recorder.line.Goals as goal

pub pass_on-requires-clause-told : goal.pass_on-requires-clause-told
pass_on-requires-clause-told g c =
    let tail =
    line-tail c.args.self.now.sectors c.args.event c.args.self.now.world.entries c.record.new.self.world.entries c.requires.recorded c.in-Ok.ensures.comes in
    looked-within c.args.self.now.world.entries c.record.new.self.world.entries tail.0 c.record.new.self.told tail.1
    (ap (λ (r : Recorder). r.told) c.in-Ok.ensures.rest ∙ c.requires.kept.told)

pub pass_on-requires-clause-tally : goal.pass_on-requires-clause-tally
pass_on-requires-clause-tally g c =
    let tail =
    line-tail c.args.self.now.sectors c.args.event c.args.self.now.world.entries c.record.new.self.world.entries c.requires.recorded c.in-Ok.ensures.comes in
    ap (λ (r : Recorder). r.tally) c.in-Ok.ensures.rest ∙ c.requires.kept.tally
    ∙ sym (ap tally_of (looked-at c.args.self.now.world.entries c.record.new.self.world.entries tail.0 c.record.new.self.told tail.1
    (ap (λ (r : Recorder). r.told) c.in-Ok.ensures.rest ∙ c.requires.kept.told)))

pub returns-in-Err-clause-steps : goal.returns-in-Err-clause-steps
returns-in-Err-clause-steps g c =
    line-fails c.in-Err.refusal c.args.event c.args.self.now c.record.new.self
    (links g.L.Link.turns g.L.Link.given g.L.Link.taken c.args.one.now c.args.two.now)
    (ap (λ (r : Recorder). r.sectors) c.in-Err.ensures.rest) (ap (λ (r : Recorder). r.commands) c.in-Err.ensures.rest) c.in-Err.ensures.fails

pub returns-clause-steps : goal.returns-clause-steps
returns-clause-steps g c =
    let p = c.args.self.now in
    let q = c.record.new.self in
    let r = c.pass_on.new.self in
    let tail = line-tail p.sectors c.args.event p.world.entries q.world.entries c.requires.recorded c.in-Ok.ensures.comes in
    let told = ap (λ (x : Recorder). x.told) c.in-Ok.ensures.rest ∙ c.requires.kept.told in
    let all = ap (λ (x : Recorder). x.world.entries) c.pass_on.ensures.rest in
    line-comes-on p q r (links g.L.Link.turns g.L.Link.given g.L.Link.taken c.args.one.now c.args.two.now)
    (links g.L.Link.turns g.L.Link.given g.L.Link.taken c.pass_on.new.one c.pass_on.new.two) c.args.event
    tail.0 tail.1 told c.in-Ok.ensures.rest c.pass_on.ensures.rest c.in-Ok.ensures.comes c.in-Ok.ensures.line
    c.pass_on.ensures.turns_one c.pass_on.ensures.given_one c.pass_on.ensures.turns_two c.pass_on.ensures.given_two
    c.pass_on.result
    (carried c.pass_on.result sender.Shelf p.world.entries q.world.entries r.world.entries tail.0 q.told _ _ tail.1 told all c.pass_on.ensures.one)
    (carried c.pass_on.result sender.Host p.world.entries q.world.entries r.world.entries tail.0 q.told _ _ tail.1 told all c.pass_on.ensures.two)
    c.pass_on.ensures.link_alone
