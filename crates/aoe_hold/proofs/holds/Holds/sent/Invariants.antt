use Rattle.aoe_hold.proofs.holds.Holds.sent.Given as goal

abbrev pub ghosts-sent_counted : goal.ghosts-sent_counted
ghosts-sent_counted a = record { name = a.blank.name; parts = a.blank.parts }
