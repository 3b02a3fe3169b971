use Rattle.std.proofs.Common.{sym, ap, ◌∙◌, arith, length, length-append, [], ◌∷◌}
use Rattle.aoe_vlan.proofs.PortLemmas.{others-with, others-without}
use Rattle.aoe_vlan.proofs.switch.Switch.others.Goals.{then-is_other, else-is_other}
use Rattle.aoe_vlan.proofs.switch.Switch.others.Goals as goal

pub ports-preserved : goal.ports-preserved
ports-preserved c =
    let ports = c.args.self.now.ports in
    let list = c.ports.numbers.items in
    elim c.if-is_other.branch [
      | then-is_other w ↦
          let grown = ap (λ n. n.items) w.numbers-is ∙ w.push.ensures.items in (
            grown ∙ others-with ports c.args.vid c.args.port c.ports.q list (sym c.is_other.ensures ∙ w.if-is_other.true) c.ports.invariant.0,
            omega (arith, ap length grown, c.ports.invariant.1, length-append list (c.ports.q ∷ [])),
          )
      | else-is_other w ↦
          let same = ap (λ n. n.items) w.numbers-is in (
            same ∙ others-without ports c.args.vid c.args.port c.ports.q list (sym c.is_other.ensures ∙ w.if-is_other.false) c.ports.invariant.0,
            omega (arith, ap length same, c.ports.invariant.1),
          )
    ]
