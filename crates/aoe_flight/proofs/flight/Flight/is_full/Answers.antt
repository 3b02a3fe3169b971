use Rattle.std.proofs.Common.{ap, arith, length}
use Rattle.std.proofs.lemmas.Bool.{leb-true}
use Rattle.slab.specs.Slab.{values}
use Rattle.aoe_flight.specs.FlightTable.{FlightTable}
use Rattle.aoe_flight.proofs.SlotLemmas.{live-shorter}
use Rattle.aoe_flight.proofs.SoundLemmas.{full-none, live-view}
use Rattle.aoe_flight.proofs.RecallLemmas.{length-recalled}
use Rattle.aoe_flight.proofs.flight.Flight.is_full.Goals as goal

pub returns-then-len-room-clause-value : goal.returns-then-len-room-clause-value
returns-then-len-room-clause-value c =
    let live = ap length (live-view (values c.self.inside.commands) c.self.view_is c.args.now.0 c.requires) in
    let room = ap (λ (t : FlightTable). t.room) c.self.view_is in
    full-none c.is_any_over.result _ _ _ c.args.self.now.room _ c.is_any_over.ensures.some c.is_any_over.ensures.none live room c.self.invariant.0.fits
    (omega (arith, c.len.ensures, c.if-len-room.true))

pub returns-then-len-room-clause-sent : goal.returns-then-len-room-clause-sent
returns-then-len-room-clause-sent c = λ sent recalls. rw (← length-recalled c.args.self.now sent c.args.now.0 recalls c.requires)
    (returns-then-len-room-clause-value c)

pub returns-else-len-room-clause-value : goal.returns-else-len-room-clause-value
returns-else-len-room-clause-value c =
    let live = ap length (live-view (values c.self.inside.commands) c.self.view_is c.args.now.0 c.requires) in
    let room = ap (λ (t : FlightTable). t.room) c.self.view_is in
    let fewer = live-shorter c.self.inside.rest.0 c.args.now.0 (values c.self.inside.commands) in (
      λ is. absurd (omega (arith, leb-true _ _ is, c.if-len-room.false)),
      λ full. absurd (omega (arith, full, live, room, c.len.ensures, fewer, c.if-len-room.false)),
    )

pub returns-else-len-room-clause-sent : goal.returns-else-len-room-clause-sent
returns-else-len-room-clause-sent c = λ sent recalls. rw (← length-recalled c.args.self.now sent c.args.now.0 recalls c.requires)
    (returns-else-len-room-clause-value c)
