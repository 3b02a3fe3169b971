use Rattle.std.proofs.Common.{◌≡◌, List, [], ◌∷◌, ◌∙◌, ap, arith, false, length, max, refl, rules, sym}
use Rattle.aoe_hold.specs.declared.keys.Key.{Key}
use Rattle.std.proofs.lemmas.List.{append-nil, length-append}
use Rattle.aoe_hold.proofs.FreeLemmas.{free-none, walked-more}
use Rattle.aoe_hold.proofs.keeper.keeper_of_some.Goals as goal

pub keys-preserved : goal.keys-preserved
keys-preserved g c =
    let is : c.max-from.result ≡ max c.keys.from c.in-Clear.time = search rules in
    let last = c.in-Some.ensures.some in
    let walked =
    walked-more c.max-from.result c.args.near.now.keys c.keys.near.keys c.look_last.new.self.keys c.keys.invariant.0 last.0
    last.2 is c.keys.invariant.1 c.keys.invariant.2 (rw (← last.1) at c.in-Clear.ensures.keeper) in
    let shorter = ap (λ (l : List Key). length l) last.2 ∙ length-append c.look_last.new.self.keys (last.0 ∷ []) in
    (walked.0, walked.1, walked.2, omega (arith, shorter, c.keys.invariant.3, c.in-Some.ensures.step, c.in-Clear.ensures.step))

pub returns-clause-keeper : goal.returns-clause-keeper
returns-clause-keeper g c =
    rw (c.keys.invariant.1, c.in_default.ensures.none) c.keys.invariant.2

pub keys-init : goal.keys-init
keys-init g c = (
  [],
  sym (append-nil c.args.near.now.keys),
  free-none c.args.life.0 (λ e. false) c.args.commands.now.items c.args.command.now (λ k d below. refl),
  refl,
)
