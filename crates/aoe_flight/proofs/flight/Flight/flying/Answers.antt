use Rattle.std.proofs.Common.{◌≡◌, Some, ap, refl, sym, ◌∙◌, rules}
use Rattle.std.specs.Prelude.{option_map}
use Rattle.slab.specs.Slab.{values}
use Rattle.aoe_flight.specs.declared.outstanding.Outstanding.{Outstanding}
use Rattle.aoe_flight.specs.Outstanding.{flies_as}
use Rattle.aoe_flight.proofs.LiveLemmas.{find-live}
use Rattle.aoe_flight.proofs.RecallLemmas.{flying-recalled}
use Rattle.aoe_flight.proofs.flight.Flight.flying.Goals as goal

pub unwrap-requires : goal.unwrap-requires
unwrap-requires c =
    let live = find-live (flies_as c.args.ticket.0) c.self.inside.rest.0 c.self.inside.latest.0 (λ d is. rw is refl) (values c.self.inside.commands) in
    rw (← (live ∙ sym c.find_ticket.ensures)) (rw (← c.self.view_is) at c.requires)

pub returns-clause-value : goal.returns-clause-value
returns-clause-value c =
    let live = find-live (flies_as c.args.ticket.0) c.self.inside.rest.0 c.self.inside.latest.0 (λ d is. rw is refl) (values c.self.inside.commands) in
    let opened : c.find_ticket.result ≡ Some c.unwrap.result = search rules in
    rw (← c.self.view_is) (ap (option_map (λ (d : Outstanding). d.flying)) (live ∙ sym c.find_ticket.ensures ∙ opened))

pub returns-clause-sent : goal.returns-clause-sent
returns-clause-sent c = flying-recalled (flies_as c.args.ticket.0) c.args.self.now _ c.unwrap.result.flying refl (returns-clause-value c)
