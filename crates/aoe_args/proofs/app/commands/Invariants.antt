use Rattle.std.proofs.Common.{◌≡◌, drop, map}
use Rattle.clap.specs.Words.{app_of}
use Rattle.aoe_args.specs.Apps.{added, form, top, with_form}
use Rattle.aoe_args.proofs.app.commands.Given as goal

abbrev pub invariant-forms : goal.invariant-forms
invariant-forms l = added with_form (app_of l.commands) (map form (drop l.form-index l.forms)) ≡ added with_form top (map form l.forms)
