use Rattle.std.proofs.Common.{◌≡◌, [], ◌∷◌, ◌++◌, ◌∙◌, List, ℕ, length, length-append, arith, refl, subst, sym}
use Rattle.aoe_serve.specs.Arrivals.{replies_of, reply_of}
use Rattle.aoe_serve.specs.Slots.{slots_of}
use Rattle.aoe_serve.specs.OutletLaws.{takes_more, takes_none}
use Rattle.aoe_serve.specs.Rounds.{TakesOn}
use Rattle.aoe_serve.proofs.SlotLemmas.{partly_begun, partly_then, partly_whole, replies-on}
use Rattle.aoe_serve.proofs.TurnLemmas.{count_slots, rest_then}
use Rattle.aoe_serve.proofs.rounds.round.Goals as goal

pub slots-init : goal.slots-init
slots-init g c =
    let law = g.met.O.Outlet in (
      (
        [],
        refl,
        partly_begun (slots_of g.S.Store.lasts g.S.Store.state g.D.Disk.state c.args.shelf.now.targets) c.args.frame.now,
        takes_none g.O.Outlet.took law.more law.over law.none c.args.so_far c.args.outlet.now,
      ),
      refl,
      refl,
    )

pub slots-preserved : goal.slots-preserved
slots-preserved g c =
    let i = c.slots.invariant in
    let s = i.0 in
    let m = c.meet-given.ensures.meets in
    let law = g.met.O.Outlet in
    let P : List (List ℕ) → Type 0 = λ l. TakesOn g.O.Outlet.took c.args.so_far c.meet-given.result c.args.outlet.now c.meet-given.new.outlet l in (
      (
        s.0 ++ m.0 ∷ [],
        omega (arith, length-append s.0 (m.0 ∷ []), s.1),
        partly_then _ _ _ c.args.frame.now s.0 m.0 c.slots.slot s.1 s.2 m.1,
        subst P (sym (replies-on s.0 m.0))
            (takes_more g.O.Outlet.took law.more law.over c.args.so_far c.slots.given c.meet-given.result _ _ _ (replies_of s.0) (reply_of m.0) s.3 m.2),
      ),
      rest_then c.args.shelf.now c.slots.shelf c.meet-given.new.shelf i.1 c.meet-given.ensures.rest,
      c.meet-given.ensures.len ∙ i.2,
    )

pub returns-clause-round : goal.returns-clause-round
returns-clause-round g c =
    let s = c.slots.invariant.0 in
    let whole : length s.0 ≡ length (slots_of g.S.Store.lasts g.S.Store.state g.D.Disk.state c.args.shelf.now.targets) =
    omega (
      arith,
      s.1,
      c.slots-test.false,
      c.slots.auto.slot-end,
      c.count-slot-end.ensures.count,
      count_slots g.S.Store.lasts g.S.Store.state g.D.Disk.state c.args.shelf.now.targets,
    ) in
    record { fates = s.0; meets = partly_whole _ _ c.args.frame.now s.0 s.2 whole; took = s.3 }
