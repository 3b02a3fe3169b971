use Rattle.std.proofs.Common.{◌∙◌, ap, arith, length, length-append, subst, sym}
use Rattle.aoe_cache.specs.declared.any.AnyStore.{AnyStore}
use Rattle.aoe_shelf.specs.Shelf.{ShelfTable}
use Rattle.aoe_serve.specs.Files.{AreBack, named}
use Rattle.aoe_serve.proofs.FileLemmas.{all-there, free, given-then, last-pair, refused-then, seated-then, unused-disk}
use Rattle.aoe_serve.proofs.mount.+mount.Goals as goal

pub returns-in-Err-mount-clause-refused : goal.returns-in-Err-mount-clause-refused
returns-in-Err-mount-clause-refused g t c =
    rw c.put_pair-in-Err-mount.ensures
    (given-then _ _ _ _ (last-pair _ c.split_at_mut-others.ensures.value c.take_pair-file.ensures) _ _ _
    (unused-disk _ c.in-Ok.ensures.store c.close.ensures.file) c.in-Err-mount.ensures.refused)

pub seat-requires-clause-free : goal.seat-requires-clause-free
seat-requires-clause-free g t c =
    let parts = c.split_at_mut-others.ensures.value in
    let both = length-append c.split_at_mut-others.result.0.now c.split_at_mut-others.result.1.now in
    free _ _ _ _ _ _ _ _ _ c.in-Ok-mount.ensures.seated (sym c.count-slot.ensures.count)
    (omega (arith, ap length parts, both, ap length c.take_pair-file.ensures, c.in-Ok-mount.ensures.count, c.requires.room, c.count-slot.ensures.count))

pub returns-in-Ok-seat-clause-seated : goal.returns-in-Ok-seat-clause-seated
returns-in-Ok-seat-clause-seated g t c =
    let D = g.row.D.Denot in
    seated-then _ _ _ _ (last-pair _ c.split_at_mut-others.ensures.value c.take_pair-file.ensures) _ _ _ _ _ _ _ _ c.in-Ok.ensures.store
    (sym c.count-slot.ensures.count) (ap (λ (r : ShelfTable (AnyStore D) D). named r.major r.ports r.mtu) c.in-Ok-mount.ensures.rest)
    c.in-Ok-mount.ensures.seated c.in-Ok-seat.ensures.seated

pub returns-in-Err-seat-clause-refused : goal.returns-in-Err-seat-clause-refused
returns-in-Err-seat-clause-refused g t c =
    let D = g.row.D.Denot in
    let back =
    subst (λ (r : ShelfTable (AnyStore D) D). AreBack g.D.Disk.state g.M.Most.most c.unmount.new.disks r.targets) c.in-Err-seat.ensures.same
    c.unmount.ensures.back in
    rw (c.count-slot.ensures.count, c.put_pair-in-Err-seat.ensures)
    (refused-then _ _ _ _ (last-pair _ c.split_at_mut-others.ensures.value c.take_pair-file.ensures) _ _ _ _ _ _ _ _ c.in-Ok-mount.ensures.seated back
    (unused-disk _ (c.in-Err-seat.ensures.store ∙ c.in-Ok.ensures.store) c.close-in-Err-seat.ensures.file) c.in-Err-seat.ensures.refused)

pub returns-in-Err-seat-clause-there : goal.returns-in-Err-seat-clause-there
returns-in-Err-seat-clause-there g t c = all-there _ _ _ _ c.put_pair-in-Err-seat.ensures c.unmount.ensures.there
