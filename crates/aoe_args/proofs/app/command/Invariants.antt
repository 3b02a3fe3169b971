use Rattle.std.proofs.Common.{◌≡◌, drop, false, map}
use Rattle.clap.specs.Words.{app_of}
use Rattle.clap.specs.declared.builder.command.Command.TheViews.{out-Command}
use Rattle.aoe_args.specs.Apps.{added, argument, bare, with_argument}
use Rattle.aoe_args.proofs.app.command.Given as goal

abbrev pub invariant-arguments : goal.invariant-arguments
invariant-arguments l = record {
  app : added with_argument (app_of l.command) (map argument (drop l.argument-index l.arguments))
      ≡ added with_argument (bare l.fn.name) (map argument l.arguments);
  local : (out-Command l.command).has_globals ≡ false;
}
