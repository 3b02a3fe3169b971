use Rattle.std.proofs.Common.{◌≡◌, List, length}
use Rattle.aoe_target.specs.Law.{Fate}
use Rattle.aoe_serve.specs.Arrivals.{replies_of}
use Rattle.aoe_serve.specs.Rounds.{TakesOn}
use Rattle.aoe_serve.specs.Slots.{slots_of}
use Rattle.aoe_serve.proofs.SlotLemmas.{Partly}
use Rattle.aoe_serve.proofs.rounds.round.Given as goal

abbrev pub invariant-slots : goal.invariant-slots
invariant-slots g l = ((fates : List Fate) × (length fates ≡ l.slot)
    × Partly (slots_of g.S.Store.lasts g.S.Store.state g.D.Disk.state l.initial.shelf.targets)
    (slots_of g.S.Store.lasts g.S.Store.state g.D.Disk.state l.shelf.targets) l.frame fates
    × TakesOn g.O.Outlet.took l.fn.so_far l.given l.initial.outlet l.outlet (replies_of fates))
    × (l.shelf ≡ record l.initial.shelf { targets = l.shelf.targets })
    × (length l.shelf.targets ≡ length l.initial.shelf.targets)
