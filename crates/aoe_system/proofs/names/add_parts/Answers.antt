-- Each turn adds the next part of the name.
use Rattle.std.proofs.Common.{◌==◌, rules}
use Rattle.std.proofs.lemmas.Iterator.Consumers.{YieldsList-turn, YieldsList-end}
use Rattle.std.proofs.lemmas.Iterator.Splits.{YieldsList-from_slice_split}
use Rattle.std.proofs.lemmas.List.{length_push}
use Rattle.aoe_system.proofs.NameLemmas.{one_more, all_parts}
use Rattle.aoe_system.specs.Names.{behind_slash}
use Rattle.aoe_system.proofs.names.add_parts.Goals as goal

pub parts-preserved : goal.parts-preserved
parts-preserved c =
    let road = YieldsList-from_slice_split _ (λ c. c == 47) c.args.name.now (search rules) (search rules) (search rules) (λ x b q k. search rules) in
    let t = YieldsList-turn road c.parts.yielded _ c.parts.yielded_by _ _ c.in-Some.part c.in-Some.is c.next.ensures.steps in
    record {
      can = search rules;
      ends = search rules;
      so_far = rw (length_push c.parts.yielded c.in-Some.part, c.in_ok-add_part.ensures)
          (one_more behind_slash _ _ _ _ _ t c.parts.invariant.so_far);
    }

pub returns : goal.returns
returns c =
    let road = YieldsList-from_slice_split _ (λ c. c == 47) c.args.name.now (search rules) (search rules) (search rules) (λ x b q k. search rules) in
    let t = YieldsList-end road c.parts.yielded _ c.parts.yielded_by _ _ c.in-None.is c.next.ensures.steps in
    rw (c.parts.invariant.so_far, all_parts behind_slash _ _ t.1) (search rules)
