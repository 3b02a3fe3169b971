use Rattle.std.proofs.Common.{◌≡◌, None, Some, nat_eq, rules, true, false, ◌∙◌}
use Rattle.std.specs.List.{find}
use Rattle.aoe_hold.specs.declared.command.Command.{Command}
use Rattle.aoe_hold.specs.Queue.{blocks}
use Rattle.aoe_hold.proofs.FreeLemmas.{free-missing, free-one}
use Rattle.aoe_hold.proofs.StageLemmas.{one-found}
use Rattle.aoe_hold.proofs.keeper.keeper_of_one.Goals as goal

pub returns-in_default-clause-keeper : goal.returns-in_default-clause-keeper
returns-in_default-clause-keeper g c =
    let missing : find (λ (d : Command). nat_eq d.ticket.0 c.args.ticket.0) c.args.commands.now.items ≡ None = search rules in
    free-missing c.args.life.0 c.args.ticket.0 c.args.commands.now.items c.args.command.now missing

pub returns-then-blocks-clause-keeper : goal.returns-then-blocks-clause-keeper
returns-then-blocks-clause-keeper g c =
    let found : find (λ (d : Command). nat_eq d.ticket.0 c.args.ticket.0) c.args.commands.now.items ≡ Some c.in-Some.earlier = search rules in
    let is : blocks c.args.command.now c.in-Some.earlier ≡ true = search rules in
    one-found c.args.ticket.0 c.args.commands.now.items c.in-Some.earlier c.requires found (blocks c.args.command.now) ∙ is

pub returns-clause-keeper : goal.returns-clause-keeper
returns-clause-keeper g c =
    let found : find (λ (d : Command). nat_eq d.ticket.0 c.args.ticket.0) c.args.commands.now.items ≡ Some c.in-Some.earlier = search rules in
    let out : blocks c.args.command.now c.in-Some.earlier ≡ false = search rules in
    free-one c.args.ticket.0 c.args.life.0 c.lingers_until.result c.args.command.now
    (one-found c.args.ticket.0 c.args.commands.now.items c.in-Some.earlier c.requires found) out c.lingers_until.ensures
