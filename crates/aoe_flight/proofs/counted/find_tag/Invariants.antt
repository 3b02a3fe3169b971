use Rattle.aoe_flight.proofs.counted.find_tag.Given as goal

abbrev pub ghosts-counted_tag : goal.ghosts-counted_tag
ghosts-counted_tag a = record { name = a.blank.name; parts = a.blank.parts }
