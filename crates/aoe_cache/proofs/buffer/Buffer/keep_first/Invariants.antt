use Rattle.std.proofs.Common.{◌≡◌, ◌≤◌, ◌+◌, length, nat_eq, take}
use Rattle.indexmap.specs.IndexSet.{IsUnique, spare}
use Rattle.aoe_cache.specs.Held.{numbers_of}
use Rattle.aoe_cache.proofs.buffer.Buffer.keep_first.Given as goal

abbrev pub invariant-places : goal.invariant-places
invariant-places l = record {
  numbers : l.self.numbers.keys ≡ numbers_of (take l.i l.fn.self.places.items);
  once : IsUnique nat_eq l.self.numbers;
  room : length l.fn.self.places.items ≤ length l.self.numbers.keys + spare l.self.numbers;
  places : l.self.places ≡ l.fn.self.places;
}
