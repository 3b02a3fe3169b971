use Rattle.std.proofs.Common.{◌≡◌, false, get_or, rules, true, arith}
use Rattle.aoe_hold.specs.declared.command.Command.{Command}
use Rattle.aoe_hold.specs.Commands.{is_past}
use Rattle.aoe_hold.specs.Extents.{key_of}
use Rattle.aoe_hold.proofs.KeyLemmas.{key-stays, left-all, left-dropped, left-none, left-passed}
use Rattle.aoe_hold.proofs.MoveLemmas.{none_command}
use Rattle.aoe_hold.proofs.keys.drop_past.Goals as goal
use Rattle.aoe_hold.proofs.keys.drop_past.Goals.{then-is_past, else-is_past}

pub held-preserved : goal.held-preserved
held-preserved c =
    elim c.if-is_past.branch [
      | then-is_past w ↦
          let gone : Command = get_or c.args.commands.now c.held.command-index none_command in
          let past : is_past c.args.life.0 c.args.now.0 gone ≡ true = search rules in
          rw w.keys-is (
            λ d out has. key-stays _ _ w.of.result gone d (w.remove.ensures.updates.0 (key_of d)) w.of.ensures
                (out c.held.command-index none_command c.held-test.true past) (c.held.invariant.0 d out has),
            left-dropped c.args.commands.now c.held.command-index none_command c.held.invariant.1 _ w.of.result c.held-test.true w.of.ensures
                w.remove.ensures.updates.0,
          )
      | else-is_past w ↦
          let stays : is_past c.args.life.0 c.args.now.0 (get_or c.args.commands.now c.held.command-index none_command) ≡ false = search rules in
          rw w.keys-is (c.held.invariant.0, left-passed c.args.commands.now c.held.command-index none_command c.held.invariant.1 c.held-test.true stays)
    ]

pub held-init : goal.held-init
held-init c = (λ d out has. has, left-none c.args.life.0 c.args.now.0 c.args.keys.now)

pub returns-clause-kept : goal.returns-clause-kept
returns-clause-kept c = c.held.invariant.0

pub returns-clause-left : goal.returns-clause-left
returns-clause-left c = left-all c.args.commands.now c.held.command-index (omega (arith, c.held-test.false)) c.held.invariant.1
