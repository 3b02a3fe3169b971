use Rattle.std.proofs.Common.{◌-◌, length}
use Rattle.aoe_hold.specs.HoldTable.{ArePast}
use Rattle.aoe_hold.proofs.holds.count_gone.Given as goal

-- the commands so far are past
abbrev pub invariant-past : goal.invariant-past
invariant-past l = ArePast l.life.0 l.latest.0 l.gone l.commands

abbrev pub decreases-past : goal.decreases-past
decreases-past l = length l.commands - l.gone
