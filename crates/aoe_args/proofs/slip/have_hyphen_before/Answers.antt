-- The words before a place, as texts.
use Rattle.std.proofs.Common.{◌∙◌, ap, sym}
use Rattle.std.specs.Prelude.{string_bytes}
use Rattle.std.specs.List.{list_any}
use Rattle.std.proofs.lemmas.List.{take-map}
use Rattle.aoe_args.specs.Words.{is_hyphen}
use Rattle.aoe_args.proofs.slip.have_hyphen_before.Goals as goal

pub returns : goal.returns
returns c = c.have_hyphen.ensures ∙ sym (ap (list_any is_hyphen) (take-map string_bytes c.args.place c.args.words.now))
