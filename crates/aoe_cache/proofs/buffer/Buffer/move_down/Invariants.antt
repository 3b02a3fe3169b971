use Rattle.std.proofs.Common.{◌≡◌, ◌+◌, ◌++◌, length, take, drop}
use Rattle.aoe_cache.proofs.buffer.Buffer.move_down.Given as goal

abbrev pub invariant-sectors : goal.invariant-sectors
invariant-sectors l = record {
  numbers : l.self.numbers ≡ l.fn.self.numbers;
  places : length l.self.places.items ≡ length l.fn.self.places.items;
  moved : take (l.to + l.i) l.self.places.items ≡ take l.to l.fn.self.places.items ++ take l.i (drop l.from l.fn.self.places.items);
  rest : drop (l.from + l.i) l.self.places.items ≡ drop (l.from + l.i) l.fn.self.places.items;
}
