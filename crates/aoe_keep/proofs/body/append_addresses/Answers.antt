use Rattle.std.proofs.Common.{◌≡◌, [], length, arith, rules}
use Rattle.std.proofs.lemmas.Grind.{common_steps}
use Rattle.std.proofs.lemmas.List.Elements.{All-more}
use Rattle.aoe_keep.proofs.body.append_addresses.Goals as goal

pub loop-address-preserved : goal.loop-address-preserved
loop-address-preserved c = record {
  items = grind (arith, common_steps);
  len = grind (arith, common_steps);
  six = All-more (λ a. length a.0 ≡ 6) c.args.list.now c.loop-address.address-index (record { 0 = [] }) c.loop-address-test.true c.loop-address.invariant.six
      (search rules);
}
