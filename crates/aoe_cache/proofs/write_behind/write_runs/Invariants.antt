use Rattle.std.proofs.Common.{◌≡◌, ◌≤◌, ◌-◌, length, drop}
use Rattle.aoe_disk.specs.State.{IsDisk}
use Rattle.aoe_cache.specs.Held.{placed}
use Rattle.aoe_cache.proofs.Down.{WritesUpTo}
use Rattle.aoe_cache.proofs.write_behind.write_runs.Given as goal

abbrev pub invariant-runs : goal.invariant-runs
invariant-runs g l = record {
  numbers : l.buffer.numbers ≡ l.fn.buffer.numbers;
  places : length l.buffer.places.items ≡ length l.fn.buffer.places.items;
  within : l.done ≤ length (placed l.fn.buffer);
  down : l.left ≤ l.done;
  rest : drop l.done (placed l.buffer) ≡ drop l.done (placed l.fn.buffer);
  disk : IsDisk (g.D.Disk.state l.disk);
  sectors : (g.D.Disk.state l.disk).sectors ≡ (g.D.Disk.state l.fn.disk).sectors;
  writes : WritesUpTo l.done l.left (placed l.fn.buffer) (placed l.buffer) (g.D.Disk.state l.fn.disk) (g.D.Disk.state l.disk);
}

abbrev pub decreases-runs : goal.decreases-runs
decreases-runs g l = length (placed l.fn.buffer) - l.done
