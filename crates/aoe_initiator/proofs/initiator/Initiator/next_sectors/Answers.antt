use Rattle.std.proofs.Common.{◌≡◌, ◌<◌, ◌≤◌, length, Some, None, sym, ap, refl, ◌∙◌, arith, nat_eq}
use Rattle.std.specs.Prelude.{slice_get}
use Rattle.std.proofs.lemmas.Bool.{eqb-true}
use Rattle.std.proofs.lemmas.Option.{slice_get_read}
use Rattle.aoe_base.specs.declared.sectors.Span.{Span}
use Rattle.aoe_base.proofs.CommonLemmas.{if-none}
use Rattle.aoe_initiator.specs.declared.pending.Pending.{Pending}
use Rattle.aoe_initiator.specs.Host.{Host}
use Rattle.aoe_initiator.specs.HostLog.{commands, sent_of}
use Rattle.aoe_initiator.specs.Steps.{place}
use Rattle.aoe_initiator.proofs.ListLemmas.{placed, placed-within}
use Rattle.aoe_initiator.proofs.WorkLemmas.{next-above, none-flying, not-missing, HasNoneAbove, IsAbove}
use Rattle.aoe_initiator.proofs.initiator.Initiator.next_sectors.Goals as goal
use Rattle.aoe_initiator.proofs.initiator.Initiator.next_sectors.Goals.{After-span}

pub place_of-requires : goal.place_of-requires
place_of-requires c = c.self.invariant.order

pub returns-in_err-ticket-clause-none : goal.returns-in_err-ticket-clause-none
returns-in_err-ticket-clause-none c =
    let none : HasNoneAbove c.args.self.now c.args.above.0 = rw (← c.self.view_is) c.in_err-ticket.ensures.none_sent in
    if-none c.from_residual.result _ (λ log m. none-flying m c.args.above.0 (none (sent_of (commands log)) m.sent))

pub returns-in_err-at-clause-none : goal.returns-in_err-at-clause-none
returns-in_err-at-clause-none c =
    let t = c.in_ok-ticket.ticket in
    let first : IsAbove c.args.self.now c.args.above.0 t = rw (← c.self.view_is) c.in_ok-ticket.ensures.first_sent in
    let missing : place t c.args.self.now.pending ≡ None = rw (← c.self.view_is) (sym c.place_of.ensures ∙ c.in_err-at.was) in
    if-none c.from_residual-in_err-at.result _ (λ log m. absurd (not-missing m c.args.above.0 t (first (sent_of (commands log)) m.sent) missing))

found : (c : After-span) → place c.in_ok-ticket.ticket c.self.inside.pending.items ≡ Some c.in_ok-at.at
found c = sym c.place_of.ensures ∙ c.in_ok-at.was

within : (c : After-span) → c.in_ok-at.at < length c.self.inside.pending.items
within c = placed-within _ c.self.inside.pending.items c.in_ok-at.at c.index.result.now (found c)

there : (c : After-span) → slice_get c.self.inside.pending.items c.in_ok-at.at ≡ Some c.index.result.now
there c =
    let items = c.self.inside.pending.items in
    slice_get_read items (length items) c.in_ok-at.at c.index.result.now refl (within c) c.index.ensures

pub returns-clause-some : goal.returns-clause-some
returns-clause-some c =
    let t = c.in_ok-ticket.ticket in
    let first : IsAbove c.args.self.now c.args.above.0 t = rw (← c.self.view_is) c.in_ok-ticket.ensures.first_sent in
    let at : place t c.args.self.now.pending ≡ Some c.in_ok-at.at = rw (← c.self.view_is) (found c) in
    let read : slice_get c.args.self.now.pending c.in_ok-at.at ≡ Some c.index.result.now = rw (← c.self.view_is) (there c) in
    λ log m. next-above m c.args.above.0 t c.in_ok-at.at c.index.result.now c.span.result.count (first (sent_of (commands log)) m.sent) at read
    (ap (λ (s : Span). s.count) c.span.ensures)

pub returns-clause-given : goal.returns-clause-given
returns-clause-given c =
    let items = c.self.inside.pending.items in
    let p : Pending = c.index.result.now in
    let t = c.in_ok-ticket.ticket.0 in
    let same : p.ticket.0 ≡ t = eqb-true _ _ (placed (λ (q : Pending). nat_eq q.ticket.0 t) items c.in_ok-at.at p (found c) (there c)) in
    let below : p.ticket.0 ≤ c.self.inside.last_ticket.0 = rw (← c.index.ensures) at (c.self.invariant.given c.in_ok-at.at p (within c)) in
    omega (arith, same, below, ap (λ (h : Host). h.last_ticket) c.self.view_is)
