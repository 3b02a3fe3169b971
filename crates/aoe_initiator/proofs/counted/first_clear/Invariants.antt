use Rattle.aoe_initiator.proofs.counted.first_clear.Given as goal

abbrev pub ghosts-counted_clear : goal.ghosts-counted_clear
ghosts-counted_clear a = record { name = a.blank.name; parts = a.blank.parts }
