-- Each turn adds the next command.
use Rattle.std.proofs.Common.{◌∙◌, sym}
use Rattle.clap.specs.Words.{app_of}
use Rattle.aoe_args.specs.Apps.{form, with_form}
use Rattle.aoe_args.proofs.AppLemmas.{all_added, next_form}
use Rattle.aoe_args.proofs.app.commands.Goals as goal

pub forms-preserved : goal.forms-preserved
forms-preserved c =
    next_form _ (app_of c.forms.commands) (app_of c.in_ok-commands.commands) (app_of c.in_ok-command.field-0) c.args.forms.now c.forms.form-index _
    c.forms-test.true c.in_ok-command.ensures.app (c.in_ok-commands.ensures.shape c.in_ok-command.ensures.local) c.forms.invariant

pub returns : goal.returns
returns c = sym (all_added form with_form (app_of c.forms.commands) c.args.forms.now c.forms.form-index c.forms-test.false) ∙ c.forms.invariant
