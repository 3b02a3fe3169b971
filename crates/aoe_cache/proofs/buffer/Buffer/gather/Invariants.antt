use Rattle.std.proofs.Common.{◌≡◌, ◌*◌, take, drop}
use Rattle.aoe_cache.specs.Down.{bytes_of}
use Rattle.aoe_cache.specs.Held.{placed}
use Rattle.aoe_cache.proofs.buffer.Buffer.gather.Given as goal

abbrev pub invariant-sectors : goal.invariant-sectors
invariant-sectors l = take (512 * l.i) l.out ≡ bytes_of (take l.i (drop l.from (placed l.self)))
