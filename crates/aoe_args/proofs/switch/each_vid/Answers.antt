-- Each turn reads the next part of the text.
use Rattle.std.proofs.Common.{◌==◌, ap, rules}
use Rattle.std.proofs.lemmas.Iterator.Consumers.{YieldsList-turn, YieldsList-end}
use Rattle.std.proofs.lemmas.Iterator.Splits.{YieldsList-from_slice_split}
use Rattle.std.proofs.lemmas.List.{length_push}
use Rattle.aoe_base.proofs.EachLemmas.{none_at, one_more}
use Rattle.aoe_vlan.specs.Tag.{is_vid}
use Rattle.aoe_args.proofs.PortLemmas.{all_read, one_too_many}
use Rattle.aoe_args.proofs.SwitchLemmas.{all_with}
use Rattle.aoe_args.specs.Switching.{vid_of}
use Rattle.aoe_args.specs.Values.{up_to}
use Rattle.aoe_args.proofs.switch.each_vid.Goals as goal

pub returns-in_err-vid-clause-value : goal.returns-in_err-vid-clause-value
returns-in_err-vid-clause-value c =
    let road = YieldsList-from_slice_split _ (λ c. c == 44) c.args.text.now (search rules) (search rules) (search rules) (λ x b q k. search rules) in
    let t = YieldsList-turn road c.parts.yielded _ c.parts.yielded_by _ _ c.in-Some.part c.in-Some.is c.next.ensures.steps in
    let none = none_at vid_of _ _ _ c.parts.invariant.so_far _ t c.in_err-vid.ensures.value in
    let over = ap (up_to 64) none in
    search rules

pub returns-then-is_full-clause-value : goal.returns-then-is_full-clause-value
returns-then-is_full-clause-value c =
    let road = YieldsList-from_slice_split _ (λ c. c == 44) c.args.text.now (search rules) (search rules) (search rules) (λ x b q k. search rules) in
    let t = YieldsList-turn road c.parts.yielded _ c.parts.yielded_by _ _ c.in-Some.part c.in-Some.is c.next.ensures.steps in
    one_too_many vid_of 64 _ _ _ c.parts.invariant.so_far _ t c.in_ok-vid.vid c.in_ok-vid.ensures.value (search rules)

pub parts-preserved : goal.parts-preserved
parts-preserved c =
    let road = YieldsList-from_slice_split _ (λ c. c == 44) c.args.text.now (search rules) (search rules) (search rules) (λ x b q k. search rules) in
    let t = YieldsList-turn road c.parts.yielded _ c.parts.yielded_by _ _ c.in-Some.part c.in-Some.is c.next.ensures.steps in
    record {
      can = search rules;
      ends = search rules;
      few = search rules;
      so_far =
          rw (length_push c.parts.yielded c.in-Some.part, c.push.ensures.items)
          (one_more vid_of _ _ _ c.parts.invariant.so_far _ t c.in_ok-vid.vid c.in_ok-vid.ensures.value);
      numbers = rw c.push.ensures.items (all_with is_vid c.parts.vids.items c.in_ok-vid.vid c.parts.invariant.numbers c.in_ok-vid.ensures.range);
    }

pub returns-clause-value : goal.returns-clause-value
returns-clause-value c =
    let road = YieldsList-from_slice_split _ (λ c. c == 44) c.args.text.now (search rules) (search rules) (search rules) (λ x b q k. search rules) in
    let t = YieldsList-end road c.parts.yielded _ c.parts.yielded_by _ _ c.in-None.is c.next.ensures.steps in
    all_read vid_of 64 _ _ _ c.parts.invariant.so_far t.1 c.parts.invariant.few
