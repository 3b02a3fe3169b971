use Rattle.std.proofs.Common.{◌≡◌, ap, refl, sym, ◌∙◌, rules}
use Rattle.std.specs.Prelude.{option_map}
use Rattle.slab.specs.Slab.{values}
use Rattle.aoe_flight.specs.declared.outstanding.Outstanding.{Outstanding}
use Rattle.aoe_flight.specs.Outstanding.{flies_with}
use Rattle.aoe_flight.proofs.LiveLemmas.{find-live}
use Rattle.aoe_flight.proofs.SoundLemmas.{count-live}
use Rattle.aoe_flight.proofs.RecallLemmas.{match-recalled, no-match-recalled}
use Rattle.aoe_flight.proofs.flight.Flight.match_tag.Goals as goal

pub returns-clause-flying : goal.returns-clause-flying
returns-clause-flying c =
    let mapped : c.map.result ≡ option_map (λ (d : Outstanding). d.ticket) c.find_tag.result = search rules in
    let live = find-live (flies_with c.args.tag) c.self.inside.rest.0 c.self.inside.latest.0 (λ d is. rw is refl) (values c.self.inside.commands) in
    rw (← c.self.view_is) (mapped ∙ ap (option_map (λ (d : Outstanding). d.ticket)) (c.find_tag.ensures ∙ sym live))

pub returns-clause-only : goal.returns-clause-only
returns-clause-only c = rw (← c.self.view_is)
    (count-live c.self.inside.rest.0 c.self.inside.latest.0 (values c.self.inside.commands) c.args.tag (c.self.invariant.0.distinct c.args.tag))

pub returns-clause-flying_sent : goal.returns-clause-flying_sent
returns-clause-flying_sent c = match-recalled (flies_with c.args.tag) c.args.self.now _ c.map.result refl (returns-clause-flying c)

pub returns-clause-none_sent : goal.returns-clause-none_sent
returns-clause-none_sent c = no-match-recalled (flies_with c.args.tag) c.args.self.now (λ d is. rw is refl) _ c.map.result refl (returns-clause-flying c)
