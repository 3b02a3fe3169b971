use Rattle.std.proofs.Common.{◌∙◌, ap, subst}
use Rattle.aoe_cache.specs.Any.{any_disk, any_state}
use Rattle.aoe_cache.specs.declared.any.AnyStore.{AnyStore}
use Rattle.aoe_keep.specs.Keep.{Kept}
use Rattle.aoe_serve.specs.Files.{IsUnder}
use Rattle.aoe_serve.proofs.mount.leave.Goals as goal

pub returns-clause-leaves : goal.returns-clause-leaves
returns-clause-leaves g c =
    let D = g.row.D.Denot in
    let t = c.in-Some.ensures.takes in
    let store = ap (λ (x : AnyStore D × Kept D). x.0) t.2 in
    record {
      target = t.0;
      last = t.1;
      left = record {
        store = c.close.ensures.file ∙ ap (λ (x : AnyStore D). any_disk x) store;
        under = subst (λ (x : AnyStore D). IsUnder g.M.Most.most (g.D.Disk.state c.close.result) (any_state g.D.Disk.state x)) store c.close.ensures.under;
        disk = c.close-2.ensures ∙ ap (λ (x : AnyStore D × Kept D). x.1.disk) t.2;
      };
    }
