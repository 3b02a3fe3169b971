use Rattle.aoe_host_tests.proofs.flight.due.Given as goal

abbrev pub ghosts-due_counted : goal.ghosts-due_counted
ghosts-due_counted a = record { name = a.blank.name; parts = a.blank.parts }
