use Rattle.aoe_flight.proofs.counted.is_any_over.Given as goal

abbrev pub ghosts-counted_over : goal.ghosts-counted_over
ghosts-counted_over a = record { name = a.blank.name; parts = a.blank.parts }
