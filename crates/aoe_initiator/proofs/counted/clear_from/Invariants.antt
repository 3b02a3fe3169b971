use Rattle.aoe_initiator.proofs.counted.clear_from.Given as goal

abbrev pub ghosts-counted_clear_from : goal.ghosts-counted_clear_from
ghosts-counted_clear_from a = record { name = a.blank.name; parts = a.blank.parts }
