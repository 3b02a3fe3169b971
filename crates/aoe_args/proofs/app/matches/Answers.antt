-- The command is simple, so clap says which kind of fault an error is.
use Rattle.std.proofs.Common.{◌∙◌}
use Rattle.aoe_args.specs.Apps.{aoe_app}
use Rattle.aoe_args.proofs.AppLemmas.{all_forms, aoe_app_is_free, fails_by, finds_by}
use Rattle.aoe_args.proofs.app.matches.Goals as goal

pub returns-clause-kinds : goal.returns-clause-kinds
returns-clause-kinds c =
    fails_by _ aoe_app _ c.try_get_matches_from.result (c.in_ok-commands.ensures ∙ all_forms) aoe_app_is_free c.try_get_matches_from.ensures.kinds

pub returns-clause-found : goal.returns-clause-found
returns-clause-found c = finds_by _ aoe_app _ c.try_get_matches_from.result (c.in_ok-commands.ensures ∙ all_forms) c.try_get_matches_from.ensures.matches
