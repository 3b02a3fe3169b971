use Rattle.std.proofs.Common.{◌≡◌, ◌≤◌, ◌+◌, ◌-◌, ◌^◌, ◌∙◌, ap, arith, length, min, refl}
use Rattle.aoe_io.specs.LinkMemory.{passed}
use Rattle.aoe_io.specs.contracts.mem_link.MemLink.{the_view}
use Rattle.aoe_io.proofs.LinkLemmas.{coming-passed, given-passed, passed-is}
use Rattle.aoe_io.proofs.mem_link.MemLink.pass.Goals as goal

pub returns-clause-turn : goal.returns-clause-turn
returns-clause-turn c =
    let all = c.self.inside.coming.items in
    let at = c.self.inside.at in
    let turns = c.self.inside.turns in
    let turned = c.self.invariant.0 in
    let at_is : c.min-self-inside.result ≡ min (at + 1) (length all) = omega arith in
    let turns_is : c.saturating_add-self-inside.result ≡ min (turns + 1) (2 ^ 64 - 1) = omega arith in
    let long : length all ≤ 2 ^ 64 - 1 = omega arith in
    let most : turns ≤ 2 ^ 64 - 1 = omega arith in
    rw (at_is, turns_is) (
    passed-is (the_view c.self.inside) _ _ _ (coming-passed all at turned.within) (given-passed all at turns turned long most) refl
    ∙ ap passed c.self.view_is
    )
