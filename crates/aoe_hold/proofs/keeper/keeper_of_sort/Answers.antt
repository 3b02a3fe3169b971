use Rattle.std.proofs.Common.{◌≡◌, ◌+◌, ◌-◌, arith, get_or}
use Rattle.std.specs.Bool.{beq}
use Rattle.aoe_hold.specs.Commands.{is_write}
use Rattle.aoe_hold.proofs.ExtentLemmas.{span-alone}
use Rattle.aoe_hold.proofs.FreeLemmas.{narrowed, HasTicketOf}
use Rattle.aoe_hold.proofs.KeyLemmas.{beq-same, key-met}
use Rattle.aoe_hold.proofs.NearLemmas.{keys-between}
use Rattle.aoe_hold.proofs.keeper.keeper_of_sort.Goals as goal

pub returns-clause-keeper : goal.returns-clause-keeper
returns-clause-keeper g c =
    let span = c.args.command.now.span in
    let low : c.saturating_sub-first.result ≡ span.at - c.args.extent.reach =
    omega (arith, c.saturating_sub-first.ensures, c.from-at.ensures, c.from.ensures) in
    let high : c.from-at.result + c.from-2.result ≡ span.at + span.count = omega (arith, c.from-at.ensures, c.from-2.ensures) in
    narrowed c.args.life.0 (HasTicketOf c.near-near.result.keys) c.args.commands.now.items c.args.command.now
    (λ e. beq (is_write e.kind) c.args.writes) c.keeper_of_some.result
    (λ k d below sort conflicts.
    let e = get_or c.args.commands.now.items k d in
    let within = c.requires.covers k d below in
    let over = span-alone c.args.command.now c.requires.spans within conflicts in
    key-met c.args.commands.now.keys c.near-near.result.keys c.args.writes _ _ e c.args.command.now c.args.extent.reach c.near-near.ensures.keys
    (beq-same (is_write e.kind) c.args.writes sort) low high within.keyed within.reached over.0)
    c.keeper_of_some.ensures.keeper

pub returns-clause-steps : goal.returns-clause-steps
returns-clause-steps g c = λ held owned.
    let span = c.args.command.now.span in
    let low : c.saturating_sub-first.result ≡ span.at - c.args.extent.reach =
    omega (arith, c.saturating_sub-first.ensures, c.from-at.ensures, c.from.ensures) in
    let high : c.from-at.result + c.from-2.result ≡ span.at + span.count = omega (arith, c.from-at.ensures, c.from-2.ensures) in
    let few = keys-between c.near-near.result.keys c.args.extent c.args.writes _ _ c.args.command.now c.near-near.ensures.keys
    c.near-near.ensures.ordered owned low high in
    omega (arith, few, c.keeper_of_some.ensures.steps)
