use Rattle.std.proofs.Common.{ℕ, ◌≡◌, ◌<◌, ◌∷◌, ◌++◌, [], List, length, Option, Some, ap, refl, sym, subst, ◌∙◌, arith, nat_eq}
use Rattle.std.specs.Prelude.{slice_get, IfSome}
use Rattle.std.proofs.lemmas.Option.{slice_get_read}
use Rattle.aoe_flight.specs.FlightTable.{FlightTable}
use Rattle.aoe_initiator.specs.declared.device.Arrival.{Arrival}
use Rattle.aoe_initiator.specs.declared.outcome.Done.{Done}
use Rattle.aoe_initiator.specs.declared.outcome.Outcome.{Outcome}
use Rattle.aoe_initiator.specs.declared.pending.Pending.{Pending}
use Rattle.aoe_initiator.specs.Host.{Host, IsSendable}
use Rattle.aoe_initiator.specs.Op.{data_len}
use Rattle.aoe_initiator.specs.Response.{outcome_of, CanFill}
use Rattle.aoe_initiator.specs.Steps.{place}
use Rattle.aoe_initiator.proofs.ListLemmas.{placed-inside}
use Rattle.aoe_initiator.proofs.SoundLemmas.{sound-closed}
use Rattle.aoe_initiator.proofs.StepLemmas.{closes-from}
use Rattle.aoe_initiator.proofs.initiator.Initiator.finish.Goals as goal

pub into_outcome-requires : goal.into_outcome-requires
into_outcome-requires c =
    let p : Pending = c.close-command.result in
    let P : Host → Type 0 = λ h. place c.args.heard.ticket h.pending ≡ Some c.args.heard.at in
    let inside : c.args.heard.at < length c.self.inside.pending.items =
    placed-inside (λ (q : Pending). nat_eq q.ticket.0 c.args.heard.ticket.0) c.self.inside.pending.items c.args.heard.at
    (subst P (sym c.self.view_is) c.requires.there) in
    let there : slice_get c.self.inside.pending.items c.args.heard.at ≡ Some p =
    slice_get_read c.self.inside.pending.items (length c.self.inside.pending.items) c.args.heard.at p refl inside c.close-command.ensures.command in
    let F : Host → Type 0 = λ h. IfSome (slice_get h.pending c.args.heard.at) (λ (q : Pending). CanFill c.args.heard.answer c.args.args.now (data_len q.op)) in
    let Q : Option Pending → Type 0 = λ o. IfSome o (λ (q : Pending). CanFill c.args.heard.answer c.args.args.now (data_len q.op)) in
    let R : Pending → Type 0 = λ q. IsSendable (length c.self.inside.devices.items) q in
    let ready = subst R (sym c.close-command.ensures.command) (c.self.invariant.ready c.args.heard.at p inside) in
    let C : ℕ → Type 0 = λ n. CanFill c.args.heard.answer c.args.args.now n in
    subst C (sym ready.room) (subst Q there (subst F (sym c.self.view_is) c.requires.fills))

pub invariant_of-self : goal.invariant_of-self
invariant_of-self c =
    let p : Pending = c.close-command.result in
    let done : Done = record { ticket = p.ticket; outcome = c.into_outcome.result } in
    let inside : c.args.heard.at < length c.self.inside.pending.items =
    placed-inside (λ (q : Pending). nat_eq q.ticket.0 c.args.heard.ticket.0) c.self.inside.pending.items c.args.heard.at
    (rw (← c.self.view_is) at c.requires.there) in
    let came : Option Arrival = Some (record { path = c.args.heard.path; trip = c.trip_at.result }) in
    let time = ap (λ (t : FlightTable). t.latest) c.close-command.ensures.flight in
    rw (c.close-command.ensures.devices, c.close-command.ensures.pending, c.push_back_reserved.ensures.items, c.push_back_reserved.ensures.capacity)
    (sound-closed c.self.invariant p.device.0 c.args.heard.at p.ticket came done c.close-command.new.flight (omega (arith, time, c.self.invariant.time)) inside)

pub returns-clause-closes : goal.returns-clause-closes
returns-clause-closes c =
    let p : Pending = c.close-command.result in
    let inside : c.args.heard.at < length c.self.inside.pending.items =
    placed-inside (λ (q : Pending). nat_eq q.ticket.0 c.args.heard.ticket.0) c.self.inside.pending.items c.args.heard.at
    (rw (← c.self.view_is) at c.requires.there) in
    let came : Option Arrival = Some (record { path = c.args.heard.path; trip = c.trip_at.result }) in
    let more : Outcome → List Done = λ o. c.self.inside.done.items ++ record { ticket = p.ticket; outcome = o } ∷ [] in
    let closed = closes-from _ c.args.heard.at p came
    (outcome_of c.args.heard.answer c.args.args.now) _ _ _ _ inside c.close-command.ensures.command c.close-command.ensures.flight
    c.close-command.ensures.devices c.close-command.ensures.pending
    (c.push_back_reserved.ensures.items ∙ ap more c.into_outcome.ensures) in
    rw (← c.self.view_is) (c.flying-flying.result, c.flying-flying.ensures.value, rw (← c.trip_at.ensures) closed)

pub returns-clause-ticket : goal.returns-clause-ticket
returns-clause-ticket c =
    let p : Pending = c.close-command.result in
    let inside : c.args.heard.at < length c.self.inside.pending.items =
    placed-inside (λ (q : Pending). nat_eq q.ticket.0 c.args.heard.ticket.0) c.self.inside.pending.items c.args.heard.at
    (rw (← c.self.view_is) at c.requires.there) in
    let there : slice_get c.self.inside.pending.items c.args.heard.at ≡ Some p =
    slice_get_read c.self.inside.pending.items (length c.self.inside.pending.items) c.args.heard.at p refl inside c.close-command.ensures.command in
    rw (← c.self.view_is) (rw there refl)
