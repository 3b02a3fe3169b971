use Rattle.aoe_initiator.proofs.counted.first_expired.Given as goal

abbrev pub ghosts-counted_expired : goal.ghosts-counted_expired
ghosts-counted_expired a = record { name = a.blank.name; parts = a.blank.parts }
