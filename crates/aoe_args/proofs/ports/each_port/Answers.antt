-- Each turn reads the next part of the text.
use Rattle.std.proofs.Common.{◌==◌, ap, rules}
use Rattle.std.proofs.lemmas.Iterator.Consumers.{YieldsList-turn, YieldsList-end}
use Rattle.std.proofs.lemmas.Iterator.Splits.{YieldsList-from_slice_split}
use Rattle.std.proofs.lemmas.List.{length_push}
use Rattle.aoe_base.proofs.EachLemmas.{none_at, one_more}
use Rattle.aoe_args.proofs.PortLemmas.{all_read, one_too_many}
use Rattle.aoe_args.specs.Values.{port_of, up_to}
use Rattle.aoe_args.proofs.ports.each_port.Goals as goal

pub returns-in_err-port : goal.returns-in_err-port
returns-in_err-port c =
    let road = YieldsList-from_slice_split _ (λ c. c == 44) c.args.text.now (search rules) (search rules) (search rules) (λ x b q k. search rules) in
    let t = YieldsList-turn road c.parts.yielded _ c.parts.yielded_by _ _ c.in-Some.part c.in-Some.is c.next.ensures.steps in
    let none = none_at port_of _ _ _ c.parts.invariant.so_far _ t c.in_err-port.ensures.value in
    let over = ap (up_to 4) none in
    search rules

pub returns-then-is_full : goal.returns-then-is_full
returns-then-is_full c =
    let road = YieldsList-from_slice_split _ (λ c. c == 44) c.args.text.now (search rules) (search rules) (search rules) (λ x b q k. search rules) in
    let t = YieldsList-turn road c.parts.yielded _ c.parts.yielded_by _ _ c.in-Some.part c.in-Some.is c.next.ensures.steps in
    one_too_many port_of 4 _ _ _ c.parts.invariant.so_far _ t c.in_ok-port.port c.in_ok-port.ensures.value (search rules)

pub parts-preserved : goal.parts-preserved
parts-preserved c =
    let road = YieldsList-from_slice_split _ (λ c. c == 44) c.args.text.now (search rules) (search rules) (search rules) (λ x b q k. search rules) in
    let t = YieldsList-turn road c.parts.yielded _ c.parts.yielded_by _ _ c.in-Some.part c.in-Some.is c.next.ensures.steps in
    record {
      can = search rules;
      ends = search rules;
      few = search rules;
      so_far =
          rw (length_push c.parts.yielded c.in-Some.part, c.push.ensures.items)
          (one_more port_of _ _ _ c.parts.invariant.so_far _ t c.in_ok-port.port c.in_ok-port.ensures.value);
    }

pub returns : goal.returns
returns c =
    let road = YieldsList-from_slice_split _ (λ c. c == 44) c.args.text.now (search rules) (search rules) (search rules) (λ x b q k. search rules) in
    let t = YieldsList-end road c.parts.yielded _ c.parts.yielded_by _ _ c.in-None.is c.next.ensures.steps in
    all_read port_of 4 _ _ _ c.parts.invariant.so_far t.1 c.parts.invariant.few
