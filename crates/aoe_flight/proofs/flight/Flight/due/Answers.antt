use Rattle.std.proofs.Common.{refl}
use Rattle.slab.specs.Slab.{values}
use Rattle.aoe_flight.specs.Outstanding.{is_due, precedes}
use Rattle.aoe_flight.proofs.LiveLemmas.{first-among, none-among}
use Rattle.aoe_flight.proofs.RecallLemmas.{first-recalled, none-recalled}
use Rattle.aoe_flight.proofs.TableLemmas.{due-flying}
use Rattle.aoe_flight.proofs.flight.Flight.due.Goals as goal

pub returns-clause-first : goal.returns-clause-first
returns-clause-first g c =
    rw (← c.self.view_is) (first-among (is_due c.args.now.0) precedes c.self.inside.rest.0 c.self.inside.latest.0 (due-flying c.args.now.0)
    (values c.self.inside.commands) c.first_due.result c.first_due.ensures.first)

pub returns-clause-none : goal.returns-clause-none
returns-clause-none g c =
    rw (← c.self.view_is) (none-among (is_due c.args.now.0) c.self.inside.rest.0 c.self.inside.latest.0
    (values c.self.inside.commands) c.first_due.result c.first_due.ensures.none)

pub returns-clause-first_sent : goal.returns-clause-first_sent
returns-clause-first_sent g c = first-recalled (is_due c.args.now.0) precedes c.args.self.now (λ d is. rw is refl) c.first_due.result (returns-clause-first g c)

pub returns-clause-none_sent : goal.returns-clause-none_sent
returns-clause-none_sent g c = none-recalled (is_due c.args.now.0) c.args.self.now (λ d is. rw is refl) c.first_due.result (returns-clause-none g c)
