use Rattle.std.proofs.Common.{◌≡◌, arith, ap, rules, refl, sym}
use Rattle.std.specs.Prelude.{option_map}
use Rattle.slab.specs.Slab.{values}
use Rattle.aoe_flight.specs.declared.outstanding.Outstanding.{Outstanding}
use Rattle.aoe_flight.specs.FlightTable.{FlightTable}
use Rattle.aoe_flight.specs.Outstanding.{is_expired, lower}
use Rattle.aoe_flight.proofs.FirstLemmas.{expired-flies, first-live, none-live, lower-order}
use Rattle.aoe_flight.proofs.RecallLemmas.{first-recalled, none-recalled}
use Rattle.aoe_flight.proofs.flight.Flight.expired.Goals as goal

pub returns-clause-first : goal.returns-clause-first
returns-clause-first g c =
    let dead = c.self.inside.dead.0 in
    let now = c.args.now.0 in
    let mapped : c.map.result ≡ option_map (λ (d : Outstanding). d.ticket) c.first_expired.result = search rules in
    rw (← c.self.view_is) (first-live (is_expired dead now) lower c.self.inside.rest.0 c.self.inside.latest.0 (values c.self.inside.commands)
    lower-order (expired-flies dead now) c.map.result c.first_expired.result (sym c.first_expired.ensures.value) mapped)

pub returns-clause-none : goal.returns-clause-none
returns-clause-none g c =
    let mapped : c.map.result ≡ option_map (λ (d : Outstanding). d.ticket) c.first_expired.result = search rules in
    rw (← c.self.view_is) (none-live (is_expired c.self.inside.dead.0 c.args.now.0) lower c.self.inside.rest.0 c.self.inside.latest.0
    (values c.self.inside.commands) c.map.result c.first_expired.result (sym c.first_expired.ensures.value) mapped)

pub returns-clause-first_sent : goal.returns-clause-first_sent
returns-clause-first_sent g c =
    first-recalled (is_expired c.args.self.now.dead c.args.now.0) lower c.args.self.now (λ d is. rw is refl) c.map.result (returns-clause-first g c)

pub returns-clause-none_sent : goal.returns-clause-none_sent
returns-clause-none_sent g c =
    none-recalled (is_expired c.args.self.now.dead c.args.now.0) c.args.self.now (λ d is. rw is refl) c.map.result (returns-clause-none g c)

pub returns-clause-one : goal.returns-clause-one
returns-clause-one g c = search rules

pub returns-clause-bound : goal.returns-clause-bound
returns-clause-bound g c = omega (arith, c.first_expired.ensures.steps, c.self.invariant.0.fits, ap (λ (t : FlightTable). t.room) c.self.view_is)
