use Rattle.std.proofs.Common.{◌≡◌, length}
use Rattle.aoe_cache.specs.Cache.{IsIndexed}
use Rattle.aoe_cache.specs.Held.{held_of, with_written}
use Rattle.aoe_cache.proofs.buffer.Buffer.put.Given as goal

abbrev pub invariant-sectors : goal.invariant-sectors
invariant-sectors l = record {
  indexed : IsIndexed l.self;
  held : held_of l.self ≡ with_written l.at l.i l.piece (held_of l.fn.self);
  places : length l.self.places.items ≡ length l.fn.self.places.items;
}
