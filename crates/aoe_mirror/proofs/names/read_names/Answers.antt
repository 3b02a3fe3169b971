use Rattle.std.proofs.Common.{◌≡◌, IfSome, ap, is_err, sym, subst, Option, arith}
use Rattle.aoe_disk.specs.State.{Contents}
use Rattle.aoe_mirror.specs.Names.{names_at}
use Rattle.aoe_mirror.specs.declared.names.Named.{Named}
use Rattle.aoe_mirror.proofs.Naming.{names_read, no_names_at}
use Rattle.aoe_mirror.proofs.names.read_names.Goals as goal

pub returns-then-sectors-le-THIRD-clause-names : goal.returns-then-sectors-le-THIRD-clause-names
returns-then-sectors-le-THIRD-clause-names g c =
    no_names_at (g.D.Disk.state c.args.disk.now) c.requires (omega (arith, c.if-sectors-le-THIRD.true, c.sectors.ensures.count))

pub returns-in-Ok-clause-names : goal.returns-in-Ok-clause-names
returns-in-Ok-clause-names g c =
    subst (λ (x : Option Named). IfSome (g.D.Disk.state c.args.disk.now).contents (λ (b : Contents). x ≡ names_at b.bytes)) (sym c.names_in.ensures.names)
    (names_read (g.D.Disk.state c.args.disk.now) (g.D.Disk.state c.read.new.self) c.read.result c.read.new.out (ap is_err c.in-Ok.is) c.read.ensures)
