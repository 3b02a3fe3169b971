use Rattle.std.proofs.Common.{arith}
use Rattle.std.proofs.lemmas.Grind.{common_steps}
use Rattle.aoe_disk.proofs.Pieces.{spoiled_sector_of, length-spoiled_sector}
use Rattle.aoe_disk.proofs.bytes.spoil_at.Goals as goal

pub returns : goal.returns
returns c = grind (arith, common_steps, spoiled_sector_of, length-spoiled_sector, c.fill.ensures.after)
