use Rattle.std.proofs.Common.{ℕ, refl, sym, ap, ◌∙◌, nat_lt}
use Rattle.std.specs.List.{list_any}
use Rattle.slab.specs.Slab.{values}
use Rattle.aoe_flight.specs.FlightTable.{FlightTable}
use Rattle.aoe_flight.specs.Outstanding.{is_due, is_expired}
use Rattle.aoe_flight.proofs.PastLemmas.{past-later}
use Rattle.aoe_flight.proofs.RecallLemmas.{length-recalled}
use Rattle.aoe_flight.proofs.SoundLemmas.{time-of}
use Rattle.aoe_flight.proofs.TimeLemmas.{any-live, any-recalled}
use Rattle.aoe_flight.proofs.flight.Flight.times.Goals as goal

pub expired_from-expired-requires : goal.expired_from-expired-requires
expired_from-expired-requires g c = c.self.invariant.2

pub returns-clause-due : goal.returns-clause-due
returns-clause-due g c = λ sent recalls now later small.
    let held = values c.self.inside.commands in
    let past = past-later c.self.inside.latest.0 now held (time-of held c.self.view_is now later) c.self.invariant.1 in
    any-recalled (is_due now) c.args.self.now (λ d is. rw is refl) sent recalls
    ∙ ap (λ (t : FlightTable). list_any (is_due now) t.commands) (sym c.self.view_is)
    ∙ any-live (is_due now) c.self.inside.rest.0 c.self.inside.latest.0 (λ d is. rw is refl) held ∙ c.due_from-due.ensures.time now small past

pub returns-clause-expired : goal.returns-clause-expired
returns-clause-expired g c = λ sent recalls now later small.
    let held = values c.self.inside.commands in
    let dead = c.self.inside.dead.0 in
    ap (λ (t : FlightTable). list_any (is_expired t.dead now) sent) (sym c.self.view_is)
    ∙ any-recalled (is_expired dead now) c.args.self.now (λ d is. rw is refl) sent recalls
    ∙ ap (λ (t : FlightTable). list_any (is_expired dead now) t.commands) (sym c.self.view_is)
    ∙ any-live (is_expired dead now) c.self.inside.rest.0 c.self.inside.latest.0 (λ d is. rw is refl) held ∙ c.expired_from-expired.ensures.time now small

pub returns-clause-room : goal.returns-clause-room
returns-clause-room g c = λ sent recalls now later small.
    ap (λ (n : ℕ). nat_lt n c.args.self.now.room) (sym (length-recalled c.args.self.now sent now recalls later))
    ∙ c.room_from-room.ensures.room now later small
