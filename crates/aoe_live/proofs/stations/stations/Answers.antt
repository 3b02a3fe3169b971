use Rattle.std.proofs.Common.{◌≤◌, arith, subst, sym}
use Rattle.aoe_script.specs.Lines.{AreGood, most_script_bytes}
use Rattle.aoe_live.proofs.GoodLemmas.{are-good}
use Rattle.aoe_live.proofs.stations.stations.Goals as goal

pub of_setups-requires : goal.of_setups-requires
of_setups-requires c =
    let few : 5 ≤ most_script_bytes = omega arith in
    let good : AreGood c.setups.result = subst AreGood (sym c.setups.ensures) (are-good c.args.sectors c.requires.some c.requires.most) in
    (omega arith, (few, good))
