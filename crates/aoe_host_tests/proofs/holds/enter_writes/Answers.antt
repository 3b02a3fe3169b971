use Rattle.std.proofs.Common.{◌≡◌, ◌+◌, Some, ap, arith, refl, sym, ◌∙◌}
use Rattle.aoe_hold.specs.Commands.{live, unsent_count}
use Rattle.aoe_hold.specs.HoldTable.{HoldTable}
use Rattle.aoe_hold.proofs.LiveLemmas.{count-live}
use Rattle.aoe_hold.proofs.TableLemmas.{count-enter}
use Rattle.aoe_host_tests.proofs.holds.enter_writes.Goals as goal

pub enter-requires-clause-above : goal.enter-requires-clause-above
enter-requires-clause-above c = λ g at. omega (arith, c.entered.invariant.greatest g at)

pub entered-preserved : goal.entered-preserved
entered-preserved c =
    let before = c.entered.holds in
    let after = c.in-Ok.ensures.ok in
    let kept = live before.life before.latest before.commands in
    let count = ap (λ (t : HoldTable). unsent_count t.commands) after ∙ count-enter kept _ refl in
    record {
      greatest = λ g at. let same = ap (λ (t : HoldTable). t.greatest) after in let is : Some g ≡ Some (c.from.result + 1) = sym at ∙ same in
          let number : g ≡ c.from.result + 1 = cc in omega (arith, number, c.from.ensures);
      unsent = omega (arith, count, count-live before.life before.latest before.commands, c.entered.invariant.unsent);
      latest = ap (λ (t : HoldTable). t.latest) after ∙ c.entered.invariant.latest;
    }
