use Rattle.std.proofs.Common.{arith}
use Rattle.aoe_soak.proofs.GoodLemmas.{takes_lines}
use Rattle.aoe_soak.proofs.command.put_crash.Goals as goal

pub add_all-requires : goal.add_all-requires
add_all-requires c =
    let good =
    takes_lines c.args.script.now c.requires.stations c.flush.result c.flush-2.result c.named.result c.flush.ensures c.flush-2.ensures c.named.ensures in
    (omega arith, (good, omega (arith, c.requires.room)))
