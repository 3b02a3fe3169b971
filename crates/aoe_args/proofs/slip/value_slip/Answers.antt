-- An option that has a value, and gets none, awaits the next word.
use Rattle.std.proofs.Common.{◌<◌, ◌+◌, ◌∙◌, ap, arith, length, map, rules, string_bytes, sym}
use Rattle.std.proofs.lemmas.Bool.Decides.{nat_tests}
use Rattle.std.proofs.lemmas.List.{length-map}
use Rattle.aoe_args.specs.Apps.{argument, form}
use Rattle.aoe_args.specs.Words.{is_value}
use Rattle.aoe_args.proofs.RightLemmas.{awaits_next}
use Rattle.aoe_args.proofs.SlipLemmas.{is_in}
use Rattle.aoe_args.specs.declared.slip.Wrong.TheVariants as wrong
use Rattle.aoe_args.proofs.slip.value_slip.Goals.{else-place-words-via-then-place-words+else-is_value, else-place-words-via-else-place-words}
use Rattle.aoe_args.proofs.slip.value_slip.Goals as goal

pub returns-clause-slip : goal.returns-clause-slip
returns-clause-slip c =
    is_in (form c.args.form) (map string_bytes c.args.words.now) c.args.place wrong.NoValue _ c.at.ensures c.requires.place.0
    (rw (length-map c.args.words.now string_bytes) c.requires.place.1) (
      awaits_next (form c.args.form) (map string_bytes c.args.words.now) c.args.place c.requires.place.0 (argument c.args.option) c.requires.option
          c.requires.valued (search rules),
      λ there.
          let below : c.args.place + 1 < length c.args.words.now = rw (sym (length-map c.args.words.now string_bytes)) there in
          elim c.else-place-words.branch [
            | else-place-words-via-then-place-words+else-is_value w ↦ ap is_value (sym w.word_at-then-place-words.ensures) ∙ search rules
            | else-place-words-via-else-place-words w ↦ absurd (grind (arith, nat_tests, below, w.if-place-words.false))
          ],
    )
