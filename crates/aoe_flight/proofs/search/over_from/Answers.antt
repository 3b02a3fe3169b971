use Rattle.aoe_flight.specs.Outstanding.{is_over}
use Rattle.aoe_flight.proofs.TableLemmas.{over-rests}
use Rattle.aoe_flight.proofs.TimeLemmas.{any-never, any-over}
use Rattle.aoe_flight.proofs.search.over_from.Goals as goal

pub returns-in-Some-clause-time : goal.returns-in-Some-clause-time
returns-in-Some-clause-time g c = λ now small.
    rw c.over_from.ensures (any-over now c.in-Some.command.now c.args.rest.0 c.in-Some.ensures.first)

pub returns-in-None-clause-time : goal.returns-in-None-clause-time
returns-in-None-clause-time g c = λ now small.
    any-never _ (is_over c.args.rest.0 now) now small (over-rests c.args.rest.0 now) c.in-None.ensures.none
