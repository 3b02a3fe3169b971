use Rattle.std.proofs.Common.{◌<◌, ◌≤◌, length, arith, inl, inr}
use Rattle.std.proofs.lemmas.Bool.{cases_lt}
use Rattle.aoe_copy.proofs.FeedLemmas.{fills-on}
use Rattle.aoe_copy.proofs.feed.Feed.fill.Goals as goal

pub returns-in-Ok-clause-fed : goal.returns-in-Ok-clause-fed
returns-in-Ok-clause-fed g c =
    let n = c.take_front-n.result in
    let out = c.take_front-n.new.out in
    let inside : n ≤ length out = omega (arith, c.take_front-n.ensures.within, c.take_front-n.auto.out) in
    let below : n < length c.args.out.now =
    elim (cases_lt n (length c.args.out.now)) [
      | inl less ↦ less
      | inr full ↦ absurd (c.if-n-out.false (omega (arith, full, c.take_front-n.ensures.within, c.take_front-n.auto.out)))
    ] in
    let within : c.in-Ok.more ≤ length c.fill_from.new.out = omega (arith, c.in-Ok.ensures.within, c.fill_from.auto.out) in
    fills-on _ _ out c.fill_from.new.out _ n c.in-Ok.more c.take_front-n.ensures.took (c.take_front-n.ensures.short below) inside within c.in-Ok.ensures.gave
