use Rattle.aoe_host_tests.proofs.flight.expired.Given as goal

abbrev pub ghosts-expired_counted : goal.ghosts-expired_counted
ghosts-expired_counted a = record { name = a.blank.name; parts = a.blank.parts }
