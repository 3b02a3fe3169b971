use Rattle.aoe_copy.proofs.PutTurnLemmas.{turns-after}
use Rattle.aoe_copy.proofs.putting.Putting.turn.Goals as goal

pub returns-in-Ok-clause-turn : goal.returns-in-Ok-clause-turn
returns-in-Ok-clause-turn g c = λ s answers later steps told stands keeps order may.
    let first = c.in-Ok.ensures.collects s _ _ later steps told stands keeps order may in
    turns-after s _ steps first.steps' _ first.quiet_is first.left_is c.go_on.result
    (c.go_on.ensures.goes s later first.steps' first.stands first.keeps first.goes_on first.ticked)

pub returns-in-Err-clause-turn : goal.returns-in-Err-clause-turn
returns-in-Err-clause-turn g c = λ s answers later steps told stands keeps order may. c.in-Err.ensures.collects s _ _ later steps told stands keeps order may
