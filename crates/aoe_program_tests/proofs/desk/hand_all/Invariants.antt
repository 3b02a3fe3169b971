use Rattle.std.proofs.Common.{◌≤◌}
use Rattle.aoe_program_tests.proofs.desk.hand_all.Given as goal

abbrev pub invariant-tickets : goal.invariant-tickets
invariant-tickets l = l.desk.last ≤ l.before
