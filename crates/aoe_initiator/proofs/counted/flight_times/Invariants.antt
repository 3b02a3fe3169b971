use Rattle.aoe_initiator.proofs.counted.flight_times.Given as goal

abbrev pub ghosts-counted_times : goal.ghosts-counted_times
ghosts-counted_times a = record { name = a.blank.name; parts = a.blank.parts }
