use Rattle.std.proofs.Common.{◌∙◌, ℕ, List, [], get_or, ap, sym, arith, rules}
use Rattle.std.proofs.lemmas.Grind.{common_steps}
use Rattle.std.proofs.lemmas.List.{map_push}
use Rattle.aoe_lists.specs.Reserves.{addresses}
use Rattle.aoe_base.specs.declared.address.Mac.{Mac}
use Rattle.aoe_base.specs.Addresses.{all_unique, holds}
use Rattle.aoe_lists.proofs.AddressLemmas.{all_unique-append}
use Rattle.aoe_keep.proofs.Uniqueness.{twice_at}
use Rattle.aoe_keep.proofs.body.read_addresses.Goals as goal

pub returns-then-is_there : goal.returns-then-is_there
returns-then-is_there c =
    let here = ap (λ (l : List Mac). holds l (record { 0 = get_or c.sixes-six-items.result.now c.loop-six.six-index [] })) (sym c.loop-six.invariant.items)
    ∙ sym c.is_there.ensures ∙ c.if-is_there.true in
    ap (λ (s : List (List ℕ)). all_unique (addresses s)) (sym c.sixes-six-items.ensures.value)
    ∙ twice_at c.sixes-six-items.result.now c.loop-six.six-index [] c.loop-six-test.true here

pub loop-six-preserved : goal.loop-six-preserved
loop-six-preserved c = record {
  items = grind (arith, common_steps, map_push);
  len = search rules;
  unique = ap all_unique c.push.ensures.items
      ∙ all_unique-append c.loop-six.list.items _ c.loop-six.invariant.unique (sym c.is_there.ensures ∙ c.if-is_there.false);
}
