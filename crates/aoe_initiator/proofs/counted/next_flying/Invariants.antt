use Rattle.aoe_initiator.proofs.counted.next_flying.Given as goal

abbrev pub ghosts-counted_flying : goal.ghosts-counted_flying
ghosts-counted_flying a = record { name = a.blank.name; parts = a.blank.parts }
