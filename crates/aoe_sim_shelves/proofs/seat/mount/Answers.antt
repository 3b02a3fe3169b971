use Rattle.aoe_sim_shelves.proofs.SeatLemmas.{never_refused}
use Rattle.aoe_sim_shelves.proofs.seat.mount.Goals as goal

pub unreachable-requires : goal.unreachable-requires
unreachable-requires c = never_refused c.args.disk c.in-Err.field-0.1 c.in-Err.field-0.0 c.requires.lists.0 c.requires.room c.requires.lists.1
    c.requires.unarmed c.in-Err.ensures.refused
