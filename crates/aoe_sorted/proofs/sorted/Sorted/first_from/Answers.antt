use Rattle.std.proofs.Common.{◌≤◌, arith, length, refl, rules}
use Rattle.std.proofs.lemmas.Option.{slice_get_read}
use Rattle.aoe_base.proofs.CommonLemmas.{if-none}
use Rattle.aoe_sorted.proofs.RankLemmas.{first-least}
use Rattle.aoe_sorted.proofs.sorted.Sorted.first_from.Goals as goal

pub returns-in_err-first-clause-none : goal.returns-in_err-first-clause-none
returns-in_err-first-clause-none g c =
    let past : length c.self.inside.items.items ≤ c.place-place.result = search rules in
    let low = rw (← c.self.view_is) at c.place-place.ensures.low in
    if-none c.from_residual.result _ (rw (← c.self.view_is) (λ k d below. low k d (omega arith) (omega (arith, past))))

pub returns-clause-there : goal.returns-clause-there
returns-clause-there g c =
    let at = c.in_ok-first.ensures.item.3 in
    let first = c.in_ok-first.first.now in
    rw (← c.self.view_is) (slice_get_read c.self.inside.items.items _ c.place-place.result first refl at.0 (at.1 first))

pub returns-clause-from : goal.returns-clause-from
returns-clause-from g c =
    let at = c.in_ok-first.ensures.item.3 in
    let first = c.in_ok-first.first.now in
    let high = rw (← c.self.view_is) at c.place-place.ensures.high in
    rw (← at.1 first) at (high c.place-place.result first (omega arith) at.0)

pub returns-clause-first : goal.returns-clause-first
returns-clause-first g c =
    let low = rw (← c.self.view_is) at c.place-place.ensures.low in
    rw (← c.self.view_is) (first-least g.T.Ranked.rank c.self.inside.items.items c.place-place.result c.args.rank.now c.in_ok-first.first.now
    c.self.invariant.order low c.in_ok-first.ensures.item.3.1)
