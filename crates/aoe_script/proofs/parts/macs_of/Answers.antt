-- Each turn reads the next part of the text.
use Rattle.std.proofs.Common.{rules}
use Rattle.aoe_base.specs.Names.{mac_of}
use Rattle.aoe_script.specs.Classes.{macs_of}
use Rattle.aoe_script.proofs.CommaLemmas.{nothing_read, too_many_read, part_read, all_parts_read}
use Rattle.aoe_script.proofs.parts.macs_of.Goals as goal

pub returns-in_err-mac : goal.returns-in_err-mac
unfolding macs_of
returns-in_err-mac c =
    let none = nothing_read mac_of 64 c.args.text.now _ _ _ _ (search rules) (search rules) (search rules) (λ x b q k. search rules)
    c.parts.yielded c.parts.yielded_by _ c.parts.invariant.so_far c.next.ensures.steps c.in-Some.part c.in-Some.is c.in_err-mac.ensures in
    search rules

pub returns-then-is_full : goal.returns-then-is_full
unfolding macs_of
returns-then-is_full c =
    too_many_read mac_of 64 c.args.text.now _ _ _ _ (search rules) (search rules) (search rules) (λ x b q k. search rules)
    c.parts.yielded c.parts.yielded_by _ c.parts.invariant.so_far c.next.ensures.steps c.in-Some.part c.in-Some.is c.in_ok-mac.mac c.in_ok-mac.ensures
    (search rules)

pub parts-preserved : goal.parts-preserved
parts-preserved c = record {
  can = search rules;
  ends = search rules;
  few = search rules;
  so_far =
      rw c.push.ensures.items
      (part_read mac_of 64 c.args.text.now _ _ _ _ (search rules) (search rules) (search rules) (λ x b q k. search rules)
      c.parts.yielded c.parts.yielded_by _ c.parts.invariant.so_far c.next.ensures.steps c.in-Some.part c.in-Some.is c.in_ok-mac.mac c.in_ok-mac.ensures);
}

pub returns : goal.returns
unfolding macs_of
returns c =
    all_parts_read mac_of 64 c.args.text.now _ _ _ _ (search rules) (search rules) (search rules) (λ x b q k. search rules)
    c.parts.yielded c.parts.yielded_by _ c.parts.invariant.so_far c.next.ensures.steps c.in-None.is c.parts.invariant.few
