-- The slice behind the equals sign is what is left of the text there.
use Rattle.std.proofs.Common.{◌≡◌, ◌∙◌, ◌+◌, None, Some, ap, rules}
use Rattle.std.proofs.lemmas.List.{take_rest}
use Rattle.aoe_args.specs.Words.{attached}
use Rattle.aoe_args.proofs.PlaceLemmas.{attached_behind}
use Rattle.aoe_args.proofs.word.attached.Goals as goal

pub returns-in_err-equals : goal.returns-in_err-equals
returns-in_err-equals c =
    let none : None ≡ attached c.args.word.now = attached_behind c.args.word.now c.in_ok-text.text.now None c.in_ok-text.ensures c.in_err-equals.ensures in
    search rules

pub returns : goal.returns
returns c =
    ap Some (take_rest c.in_ok-text.text.now (c.in_ok-equals.equals + 1))
    ∙ attached_behind c.args.word.now c.in_ok-text.text.now (Some c.in_ok-equals.equals) c.in_ok-text.ensures c.in_ok-equals.ensures
