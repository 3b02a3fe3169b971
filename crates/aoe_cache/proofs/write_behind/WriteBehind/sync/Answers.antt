use Rattle.std.proofs.Common.{refl, inr}
use Rattle.aoe_cache.proofs.Down.{empties}
use Rattle.aoe_cache.proofs.write_behind.WriteBehind.sync.Goals as goal

pub returns-clause-syncs : goal.returns-clause-syncs
returns-clause-syncs g c = record {
  room = refl;
  down = inr (record { between = g.D.Disk.state c.write_down.new.disk; down = empties c.in_ok-write_down.ensures.down; sync = c.sync.ensures });
}
