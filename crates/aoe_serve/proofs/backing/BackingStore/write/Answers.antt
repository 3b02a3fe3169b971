use Rattle.std.proofs.Common.{subst}
use Rattle.aoe_serve.specs.Backing.{IsBacking}
use Rattle.aoe_serve.specs.declared.backing.FileStore.{FileStore}
use Rattle.aoe_serve.proofs.BackingLemmas.{any-write}
use Rattle.aoe_serve.proofs.backing.BackingStore.write.Goals as goal
use Rattle.aoe_serve.proofs.backing.BackingStore.write.Goals.{in-Any, in-Durable}

pub invariant_of-self : goal.invariant_of-self
invariant_of-self g c =
    elim c.match-self.branch [
      | in-Any w ↦ rw w.self-inside-is
          (any-write g.D.Disk.state g.M.Most.most w.write.result w.in-Any.store w.write.new.self c.args.at c.args.piece.now w.write.ensures.device
          (subst (λ (x : FileStore g.row.D.Denot). IsBacking g.M.Most.most x) w.in-Any.is c.self.invariant))
      | in-Durable w ↦ rw w.self-inside-is (subst (λ (x : FileStore g.row.D.Denot). IsBacking g.M.Most.most x) w.in-Durable.is c.self.invariant)
    ]
