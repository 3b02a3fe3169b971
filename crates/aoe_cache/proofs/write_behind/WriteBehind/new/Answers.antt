use Rattle.std.proofs.Common.{arith}
use Rattle.aoe_cache.proofs.Down.{buffer_empty}
use Rattle.aoe_cache.proofs.write_behind.WriteBehind.new.Goals as goal

pub returns-clause-behind : goal.returns-clause-behind
returns-clause-behind g c = record {
  disk = c.sectors.ensures.disk;
  buffer = buffer_empty (g.D.Disk.state c.args.disk).sectors c.in-Ok.buffer c.in-Ok.ensures.indexed c.in-Ok.ensures.held;
  places = omega (arith, c.in-Ok.ensures.room, c.min-places.ensures, c.from.ensures, c.sectors.ensures.count);
  scratch = omega (arith, c.in-Ok-from_elem.ensures.len, c.in-Ok-from_elem.scratch.ok.0);
}
