-- Each turn adds the next argument.
use Rattle.std.proofs.Common.{◌∙◌, sym}
use Rattle.clap.specs.Words.{app_of, rule_of}
use Rattle.aoe_args.specs.Apps.{argument, with_argument}
use Rattle.aoe_args.proofs.AppLemmas.{all_added, next_argument, still_local}
use Rattle.aoe_args.proofs.app.command.Goals as goal

pub arguments-preserved : goal.arguments-preserved
arguments-preserved c = record {
  app =
      next_argument _ (app_of c.arguments.command) (app_of c.in_ok-command.command) c.args.arguments.now c.arguments.argument-index _ (rule_of c.arg.result)
      c.arguments-test.true c.arg.ensures.rule (c.in_ok-command.ensures.shape c.arg.ensures.local) c.arguments.invariant.app;
  local = still_local _ _ _ c.in_ok-command.ensures.globals c.arguments.invariant.local c.arg.ensures.local;
}

pub returns-clause-app : goal.returns-clause-app
returns-clause-app c =
    sym (all_added argument with_argument (app_of c.arguments.command) c.args.arguments.now c.arguments.argument-index c.arguments-test.false)
    ∙ c.arguments.invariant.app
