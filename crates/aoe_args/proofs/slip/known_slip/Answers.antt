-- An option of the command that is given once is right as its kind wants.
use Rattle.std.proofs.Common.{◌≡◌, ◌∙◌, ap, map, rules, string_bytes, sym, take, true}
use Rattle.std.proofs.lemmas.List.{length-map, take-map}
use Rattle.aoe_args.specs.Apps.{argument, form}
use Rattle.aoe_args.specs.Places.{is_given}
use Rattle.aoe_args.proofs.RightLemmas.{right_attached, right_flag, right_next}
use Rattle.aoe_args.proofs.SlipLemmas.{is_in, some_and}
use Rattle.aoe_args.specs.declared.slip.Wrong.TheVariants as wrong
use Rattle.aoe_args.proofs.slip.known_slip.Goals as goal

pub returns-in-None-clause-right : goal.returns-in-None-clause-right
returns-in-None-clause-right c =
    right_flag (form c.args.form) (map string_bytes c.args.words.now) c.args.place c.requires.place.0 (argument c.args.option) c.requires.dash c.requires.option
    (ap (is_given c.args.option.0.now) (take-map string_bytes c.args.place c.args.words.now) ∙ sym c.is_given.ensures ∙ c.if-is_given.false)
    (search rules) c.in-None.ensures.none

pub returns-then-branch-clause-right : goal.returns-then-branch-clause-right
returns-then-branch-clause-right c =
    right_next (form c.args.form) (map string_bytes c.args.words.now) c.args.place c.requires.place.0 (argument c.args.option) c.requires.dash c.requires.option
    (ap (is_given c.args.option.0.now) (take-map string_bytes c.args.place c.args.words.now) ∙ sym c.is_given.ensures ∙ c.if-is_given.false)
    (search rules) (
      (c.in_ok-value_slip.ensures.next c.if-branch.true).0,
      rw (length-map c.args.words.now string_bytes) (c.in_ok-value_slip.ensures.next c.if-branch.true).1,
      (c.in_ok-value_slip.ensures.next c.if-branch.true).2,
    )

pub returns-else-branch-clause-right : goal.returns-else-branch-clause-right
returns-else-branch-clause-right c =
    right_attached (form c.args.form) (map string_bytes c.args.words.now) c.args.place c.requires.place.0 (argument c.args.option) c.requires.dash c.requires.option
    (ap (is_given c.args.option.0.now) (take-map string_bytes c.args.place c.args.words.now) ∙ sym c.is_given.ensures ∙ c.if-is_given.false)
    (search rules) (c.in_ok-value_slip.ensures.attached c.if-branch.false)

pub returns-then-is_given-clause-slip : goal.returns-then-is_given-clause-slip
returns-then-is_given-clause-slip c =
    is_in (form c.args.form) (map string_bytes c.args.words.now) c.args.place wrong.Twice _ c.at.ensures c.requires.place.0
    (rw (length-map c.args.words.now string_bytes) c.requires.place.1)
    (some_and (λ a. is_given a.0 (take c.args.place (map string_bytes c.args.words.now)) ≡ true) _ (argument c.args.option) c.requires.option
    (ap (is_given c.args.option.0.now) (take-map string_bytes c.args.place c.args.words.now) ∙ sym c.is_given.ensures ∙ c.if-is_given.true))
