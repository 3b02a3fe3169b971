-- Each turn reads the next part of the text.
use Rattle.std.proofs.Common.{rules}
use Rattle.aoe_script.specs.Classes.{dir_of, dirs_of}
use Rattle.aoe_script.proofs.CommaLemmas.{nothing_read, too_many_read, part_read, all_parts_read}
use Rattle.aoe_script.proofs.parts.dirs_of.Goals as goal

pub returns-in_err-dir : goal.returns-in_err-dir
unfolding dirs_of
returns-in_err-dir c =
    let none = nothing_read dir_of 64 c.args.text.now _ _ _ _ (search rules) (search rules) (search rules) (λ x b q k. search rules)
    c.parts.yielded c.parts.yielded_by _ c.parts.invariant.so_far c.next.ensures.steps c.in-Some.part c.in-Some.is c.in_err-dir.ensures in
    search rules

pub returns-then-is_full : goal.returns-then-is_full
unfolding dirs_of
returns-then-is_full c =
    too_many_read dir_of 64 c.args.text.now _ _ _ _ (search rules) (search rules) (search rules) (λ x b q k. search rules)
    c.parts.yielded c.parts.yielded_by _ c.parts.invariant.so_far c.next.ensures.steps c.in-Some.part c.in-Some.is c.in_ok-dir.dir c.in_ok-dir.ensures
    (search rules)

pub parts-preserved : goal.parts-preserved
parts-preserved c = record {
  can = search rules;
  ends = search rules;
  few = search rules;
  so_far =
      rw c.push.ensures.items
      (part_read dir_of 64 c.args.text.now _ _ _ _ (search rules) (search rules) (search rules) (λ x b q k. search rules)
      c.parts.yielded c.parts.yielded_by _ c.parts.invariant.so_far c.next.ensures.steps c.in-Some.part c.in-Some.is c.in_ok-dir.dir c.in_ok-dir.ensures);
}

pub returns : goal.returns
unfolding dirs_of
returns c =
    all_parts_read dir_of 64 c.args.text.now _ _ _ _ (search rules) (search rules) (search rules) (λ x b q k. search rules)
    c.parts.yielded c.parts.yielded_by _ c.parts.invariant.so_far c.next.ensures.steps c.in-None.is c.parts.invariant.few
