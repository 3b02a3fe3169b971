use Rattle.aoe_flight.proofs.counted.find_ticket.Given as goal

abbrev pub ghosts-counted_ticket : goal.ghosts-counted_ticket
ghosts-counted_ticket a = record { name = a.blank.name; parts = a.blank.parts }
