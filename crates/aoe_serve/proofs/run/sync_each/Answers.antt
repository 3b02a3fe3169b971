use Rattle.std.proofs.Common.{◌≡◌, [], ◌∷◌, ◌++◌, ◌∙◌, ap, length, length-append, refl, arith}
use Rattle.std.proofs.lemmas.List.{length-map}
use Rattle.aoe_shelf.specs.Shelf.{ShelfTable}
use Rattle.aoe_serve.specs.Slots.{slot_of, slots_of}
use Rattle.aoe_serve.proofs.SyncLemmas.{first-more, partly_begun, partly_then, partly_whole, syncs_at}
use Rattle.aoe_serve.proofs.run.sync_each.Goals as goal

pub slots-init : goal.slots-init
slots-init g c = (([], refl, partly_begun (slots_of g.S.Store.lasts g.S.Store.state g.D.Disk.state c.args.shelf.now.targets), refl), refl, refl)

pub slots-preserved : goal.slots-preserved
slots-preserved g c =
    let i = c.slots.invariant in
    let s = i.0 in
    let r = c.sync_slot-synced.result in
    let more = c.sync_slot-synced.ensures in (
      (
        s.0 ++ r ∷ [],
        omega (arith, length-append s.0 (r ∷ []), s.1),
        partly_then _ _ _ s.0 r c.slots.slot s.1 s.2 (syncs_at g.S.Store.lasts g.S.Store.state g.D.Disk.state r c.slots.slot _ _ more.syncs),
        first-more s.0 r c.slots.slot c.slots.first c.first_of-first.result s.3 s.1 c.first_of-first.ensures,
      ),
      more.rest ∙ ap (λ (x : ShelfTable _ _). record x { targets = c.sync_slot-synced.new.self.targets }) i.1,
      more.count ∙ i.2,
    )

pub returns-clause-syncs : goal.returns-clause-syncs
returns-clause-syncs g c =
    let s = c.slots.invariant.0 in
    let old = c.args.shelf.now.targets in
    let whole : length s.0 ≡ length (slots_of g.S.Store.lasts g.S.Store.state g.D.Disk.state old) =
    omega (
      arith,
      s.1,
      c.slots-test.false,
      c.slots.auto.slot-end,
      c.count-slot-end.ensures.count,
      length-map old
          (slot_of g.S.Store.lasts g.S.Store.state g.D.Disk.state),
    ) in
    (s.0, partly_whole _ _ s.0 s.2 whole, s.3)
