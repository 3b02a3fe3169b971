use Rattle.aoe_hold.proofs.holds.Holds.enter.Given as goal

abbrev pub ghosts-enter_blank : goal.ghosts-enter_blank
ghosts-enter_blank a = record { name = a.blank.name; parts = a.blank.parts }
