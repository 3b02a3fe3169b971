use Rattle.std.proofs.Common.{◌≡◌, ◌≤◌}
use Rattle.std.specs.Option.{ForSome}
use Rattle.aoe_hold.specs.Commands.{unsent_count}
use Rattle.aoe_host_tests.proofs.holds.enter_writes.Given as goal

abbrev pub invariant-entered : goal.invariant-entered
invariant-entered l = record {
  greatest : ForSome l.holds.greatest (λ greatest. greatest ≤ l.i);
  unsent : unsent_count l.holds.commands ≤ l.i;
  latest : l.holds.latest ≡ l.fn.holds.latest;
}
