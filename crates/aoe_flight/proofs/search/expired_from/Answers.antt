use Rattle.aoe_flight.specs.Outstanding.{is_expired}
use Rattle.aoe_flight.proofs.TableLemmas.{expired-flying}
use Rattle.aoe_flight.proofs.TimeLemmas.{any-expired, any-never}
use Rattle.aoe_flight.proofs.search.expired_from.Goals as goal

pub returns-in-Some-clause-time : goal.returns-in-Some-clause-time
returns-in-Some-clause-time g c = λ now small.
    rw c.expired_from.ensures (any-expired now c.in-Some.command.now c.args.dead.0 c.requires c.in-Some.ensures.first)

pub returns-in-None-clause-time : goal.returns-in-None-clause-time
returns-in-None-clause-time g c = λ now small.
    any-never _ (is_expired c.args.dead.0 now) now small (expired-flying c.args.dead.0 now) c.in-None.ensures.none
