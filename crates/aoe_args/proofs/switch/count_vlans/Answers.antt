-- Each turn counts the number where a port is of that VLAN.
use Rattle.std.proofs.Common.{sym, ap, ◌∙◌, arith, length, rules}
use Rattle.aoe_args.proofs.SwitchLemmas.{all-counted, counted-with, counted-without, none-counted}
use Rattle.aoe_args.proofs.switch.count_vlans.Goals.{then-is_carried, else-is_carried}
use Rattle.aoe_args.proofs.switch.count_vlans.Goals as goal

pub vids-init : goal.vids-init
vids-init c = record { from = search rules; to = search rules; few = search rules; so_far = none-counted c.args.kinds.now }

pub vids-preserved : goal.vids-preserved
vids-preserved c =
    let kinds = c.args.kinds.now in
    elim c.if-is_carried.branch [
      | then-is_carried w ↦ record {
        from = omega (arith, c.vids.invariant.from);
        to = search rules;
        few = omega (arith, w.count-is, c.vids.invariant.few);
        so_far = w.count-is
            ∙ counted-with kinds c.vids.vid c.vids.count c.vids.invariant.from (sym c.is_carried.ensures ∙ w.if-is_carried.true) c.vids.invariant.so_far;
      }
      | else-is_carried w ↦ record {
        from = omega (arith, c.vids.invariant.from);
        to = search rules;
        few = omega (arith, w.count-is, c.vids.invariant.few);
        so_far = w.count-is
            ∙ counted-without kinds c.vids.vid c.vids.count c.vids.invariant.from (sym c.is_carried.ensures ∙ w.if-is_carried.false) c.vids.invariant.so_far;
      }
    ]

pub returns : goal.returns
returns c =
    c.vids.invariant.so_far ∙ ap length (all-counted c.args.kinds.now c.vids.vid (omega (arith, c.vids.invariant.to, c.vids-test.false)))
