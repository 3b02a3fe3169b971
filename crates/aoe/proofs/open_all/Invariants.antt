use Rattle.std.proofs.Common.{◌≡◌, length}
use Rattle.std.specs.Prelude.{All, IsSome}
use Rattle.aoe.proofs.open_all.Given as goal

abbrev pub invariant-names : goal.invariant-names
invariant-names l = (length l.disks.items ≡ l.name-index) × All IsSome l.disks.items
