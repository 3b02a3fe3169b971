use Rattle.std.proofs.Common.{◌≤◌, ap, arith, refl, sym}
use Rattle.aoe_base.specs.Faults.{Blamed}
use Rattle.aoe_cache.specs.declared.any.AnyStore.{AnyStore}
use Rattle.aoe_serve.specs.Files.{named}
use Rattle.aoe_serve.proofs.FileLemmas.{exported, files-over, same-first}
use Rattle.aoe_shelf.specs.Shelf.{ShelfTable}
use Rattle.aoe_serve.proofs.over_files.export_at.Goals as goal

pub returns-in-Err-mount-clause-link_count : goal.returns-in-Err-mount-clause-link_count
returns-in-Err-mount-clause-link_count g c = same-first (λ a b. g.L.Link.faults a ≤ g.L.Link.faults b) (λ x. omega arith) c.args.links.now

pub returns-in-Err-mount-clause-link_blame : goal.returns-in-Err-mount-clause-link_blame
returns-in-Err-mount-clause-link_blame g c =
    same-first (λ a b. Blamed ⊥ (g.L.Link.faults a) (g.L.Link.faults b))
    (λ x. record { cause = λ e. absurd e; no_fault = λ e. refl; one_fault = omega arith }) c.args.links.now

pub unmount-requires : goal.unmount-requires
unmount-requires g c = omega (arith, c.run_slots-exported.ensures.count, c.in-Ok-mount.ensures.count, c.mount.auto.disks)

pub returns-clause-ran : goal.returns-clause-ran
returns-clause-ran g c =
    let D = g.row.D.Denot in
    exported
    (files-over g.D.Disk.state _ _ _ c.mount.new.shelf.targets c.run_slots-exported.new.shelf.targets (sym c.requires.most)
    (ap (λ (r : ShelfTable (AnyStore D) D). named r.major r.ports r.mtu) c.in-Ok.ensures) c.run_slots-exported.ensures.count
    c.in-Ok-mount.ensures.seated c.unmount.ensures.back)
    c.run_slots-exported.ensures.ran.run
