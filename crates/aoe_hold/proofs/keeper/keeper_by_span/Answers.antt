use Rattle.std.proofs.Common.{◌≡◌, arith, false, get_or, rules, true}
use Rattle.aoe_hold.specs.Commands.{is_write}
use Rattle.aoe_hold.proofs.ExtentLemmas.{span-alone}
use Rattle.aoe_hold.proofs.FreeLemmas.{free-all, free-or}
use Rattle.aoe_hold.proofs.KeyLemmas.{beq-either, beq-left}
use Rattle.aoe_hold.proofs.NearLemmas.{sort-under, sorts-both}
use Rattle.aoe_hold.proofs.keeper.keeper_by_span.Goals as goal

pub returns-then-not-is_write-clause-keeper : goal.returns-then-not-is_write-clause-keeper
returns-then-not-is_write-clause-keeper g c = λ latest.
    let reads : is_write c.args.command.now.kind ≡ false = search rules in
    free-all latest (λ k d below conflicts.
    beq-left _ _ (span-alone c.args.command.now c.requires.spans (c.requires.covers k d below) conflicts).1 reads)
    c.in-Clear.ensures.keeper

pub returns-in-Clear-keeper_of_sort-clause-keeper : goal.returns-in-Clear-keeper_of_sort-clause-keeper
returns-in-Clear-keeper_of_sort-clause-keeper g c = λ latest.
    free-all latest (λ k d below conflicts. beq-either (is_write (get_or c.args.commands.now.items k d).kind))
    (free-or c.max.result c.max.ensures c.in-Clear.ensures.keeper c.in-Clear-keeper_of_sort.ensures.keeper)

pub returns-in-Blocker-clause-steps : goal.returns-in-Blocker-clause-steps
returns-in-Blocker-clause-steps g c = λ held owned.
    omega (arith, c.keeper_of_sort.ensures.steps held owned, sort-under c.args.extent c.args.command.now held)

pub returns-then-not-is_write-clause-steps : goal.returns-then-not-is_write-clause-steps
returns-then-not-is_write-clause-steps g c = λ held owned.
    omega (arith, c.keeper_of_sort.ensures.steps held owned, sort-under c.args.extent c.args.command.now held)

pub returns-in-Blocker-keeper_of_sort-clause-steps : goal.returns-in-Blocker-keeper_of_sort-clause-steps
returns-in-Blocker-keeper_of_sort-clause-steps g c = λ held owned.
    let writes : is_write c.args.command.now.kind ≡ true = search rules in
    omega (
      arith,
      c.keeper_of_sort.ensures.steps held owned,
      c.keeper_of_sort-in-Clear.ensures.steps held owned,
      sorts-both c.args.extent c.args.command.now held writes,
    )

pub returns-in-Clear-keeper_of_sort-clause-steps : goal.returns-in-Clear-keeper_of_sort-clause-steps
returns-in-Clear-keeper_of_sort-clause-steps g c = λ held owned.
    let writes : is_write c.args.command.now.kind ≡ true = search rules in
    omega (
      arith,
      c.keeper_of_sort.ensures.steps held owned,
      c.keeper_of_sort-in-Clear.ensures.steps held owned,
      sorts-both c.args.extent c.args.command.now held writes,
    )
