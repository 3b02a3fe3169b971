use Rattle.aoe_initiator.proofs.counted.first_due.Given as goal

abbrev pub ghosts-counted_due : goal.ghosts-counted_due
ghosts-counted_due a = record { name = a.blank.name; parts = a.blank.parts }
