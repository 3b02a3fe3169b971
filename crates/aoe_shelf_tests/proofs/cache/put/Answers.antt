use Rattle.std.proofs.Common.{arith}
use Rattle.aoe_shelf_tests.proofs.cache.put.Goals as goal

pub write-requires : goal.write-requires
write-requires g c = record {
  some = omega arith;
  whole = omega arith;
  within = omega arith;
}
