use Rattle.std.proofs.Common.{◌≡◌, None, replicate}
use Rattle.aoe_sim_shelves.proofs.crash.no_stops.Given as goal

abbrev pub invariant-slots : goal.invariant-slots
invariant-slots l = l.stops.items ≡ replicate l.counter (record { store = None; keep = None })
