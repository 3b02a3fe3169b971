use Rattle.aoe_hold.proofs.holds.Holds.finished.Given as goal

abbrev pub ghosts-finished_counted : goal.ghosts-finished_counted
ghosts-finished_counted a = record { name = a.blank.name; parts = a.blank.parts }
