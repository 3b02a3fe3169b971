use Rattle.std.proofs.Common.{◌≡◌, Some, None}
use Rattle.std.proofs.lemmas.Option.{same_Some}
use Rattle.aoe_history.specs.Asks.{submission_in}
use Rattle.aoe_world.proofs.PlanLemmas.{some-there}
use Rattle.aoe_world.proofs.plan.ask.Goals as goal

pub returns-in-Ok-Some : goal.returns-in-Ok-Some
returns-in-Ok-Some c lines sim knows is =
    let x = some-there (submission_in c.args.event.now) c.requires.submits in
    let same = same_Some c.in-Ok-Some.op x.0.op (rw (c.in-Ok-Some.field-0-is, x.1) at c.in-Ok-Some.ensures.op) in
    rw (x.1, x.2, ← same) (c.submit.ensures lines sim knows is (rw c.in-Ok-Some.field-0-is at c.in-Ok-Some.ensures.can))

pub returns-in-Ok-None : goal.returns-in-Ok-None
returns-in-Ok-None c lines sim knows is =
    let x = some-there (submission_in c.args.event.now) c.requires.submits in
    let other : None ≡ Some x.0.op = rw (c.in-Ok-None.field-0-is, x.1) at c.in-Ok-None.ensures.op in
    absurd cc
