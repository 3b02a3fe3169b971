use Rattle.std.proofs.Common.{ap, refl}
use Rattle.aoe_cache.specs.Any.{any_state}
use Rattle.aoe_cache.specs.declared.any.AnyStore.{AnyStore}
use Rattle.aoe_shelf.specs.Shelf.{ShelfTable}
use Rattle.aoe_serve.specs.Files.{named}
use Rattle.aoe_serve.proofs.mount.seat.Goals as goal

pub returns-clause-seated : goal.returns-clause-seated
returns-clause-seated g c =
    let D = g.row.D.Denot in
    let shelf = c.args.shelf.now in
    record {
      target = record {
        station = named shelf.major shelf.ports shelf.mtu c.args.minor (any_state g.D.Disk.state c.args.store).sectors;
        keep = c.in-Ok.keep;
        store = c.args.store;
      };
      added = ap (λ (r : ShelfTable (AnyStore D) D). r.targets) c.in-Ok-add.ensures.added;
      seated = record {
        station = refl;
        store_is = refl;
        mounted = record { mounts = c.in-Ok.ensures.lists; finds = c.in-Ok.ensures.finds };
      };
    }
