use Rattle.std.proofs.Common.{◌∙◌, Some, ap, sym, arith}
use Rattle.aoe_mirror.proofs.Cleaning.{is_clean_in, unclean_in}
use Rattle.aoe_mirror.proofs.clean.sector_of.Goals as goal

pub returns-then-clean-clause-says : goal.returns-then-clean-clause-says
returns-then-clean-clause-says c = is_clean_in 512 (omega arith) ∙ ap Some (sym c.if-clean.true)

pub returns-clause-says : goal.returns-clause-says
returns-clause-says c = unclean_in 512 (omega arith) ∙ ap Some (sym c.if-clean.false)
