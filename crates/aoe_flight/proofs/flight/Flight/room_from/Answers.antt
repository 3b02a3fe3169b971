use Rattle.std.proofs.Common.{List, length, sym, ap, ◌∙◌, arith, nat_lt}
use Rattle.std.proofs.lemmas.Bool.{le-leb}
use Rattle.slab.specs.Slab.{values}
use Rattle.aoe_flight.specs.declared.outstanding.Outstanding.{Outstanding}
use Rattle.aoe_flight.specs.FlightTable.{FlightTable}
use Rattle.aoe_flight.proofs.SoundLemmas.{live-view}
use Rattle.aoe_flight.proofs.TimeLemmas.{room-full, room-left}
use Rattle.aoe_flight.proofs.flight.Flight.room_from.Goals as goal

pub returns-then-len-self-clause-room : goal.returns-then-len-self-clause-room
returns-then-len-self-clause-room g c = λ now later small.
    let held = values c.self.inside.commands in
    let room = ap (λ (t : FlightTable). t.room) c.self.view_is in
    ap (λ (l : List Outstanding). nat_lt (length l) c.args.self.now.room) (live-view held c.self.view_is now later)
    ∙ room-left c.self.inside.rest.0 now c.args.self.now.room held (omega (arith, room, c.len.ensures, c.if-len-self.true)) ∙ sym (le-leb 0 now (omega arith))

pub returns-clause-room : goal.returns-clause-room
returns-clause-room g c = λ now later small.
    let held = values c.self.inside.commands in
    let room = ap (λ (t : FlightTable). t.room) c.self.view_is in
    ap (λ (l : List Outstanding). nat_lt (length l) c.args.self.now.room) (live-view held c.self.view_is now later)
    ∙ room-full c.self.inside.rest.0 now c.args.self.now.room c.over_from.result held
    (omega (arith, room, c.len.ensures, c.if-len-self.false, c.self.invariant.0.fits)) (c.over_from.ensures.time now small)
