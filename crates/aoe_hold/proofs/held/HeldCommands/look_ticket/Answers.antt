use Rattle.std.proofs.Common.{◌≡◌, ◌∙◌, None, Some, ap, nat_eq, rules, sym}
use Rattle.std.specs.Prelude.{position}
use Rattle.aoe_hold.specs.declared.command.Command.{Command}
use Rattle.aoe_hold.proofs.OrderLemmas.{others-missing}
use Rattle.aoe_hold.proofs.StageLemmas.{find-at, find-missing}
use Rattle.aoe_hold.proofs.held.HeldCommands.look_ticket.Goals as goal

pub returns-in_err-at-clause-value : goal.returns-in_err-at-clause-value
returns-in_err-at-clause-value g c =
    let missing : position (λ (d : Command). nat_eq d.ticket.0 c.args.ticket.0) c.args.self.now.items ≡ None = search rules in
    let none : c.from_residual.result ≡ None = search rules in
    none ∙ sym (find-missing _ c.args.self.now.items (others-missing _ c.args.self.now.items missing))

pub returns-clause-value : goal.returns-clause-value
returns-clause-value g c =
    let held = c.self.inside.items.items in
    let found : position (λ (d : Command). nat_eq d.ticket.0 c.args.ticket.0) held ≡ Some c.in_ok-at.at = search rules in
    rw (← c.self.view_is) (ap (λ (d : Command). Some d) c.index.ensures ∙ sym (find-at _ held c.in_ok-at.at c.index.result.now found))
