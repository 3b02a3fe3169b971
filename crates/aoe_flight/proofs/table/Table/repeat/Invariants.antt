use Rattle.std.proofs.Common.{◌-◌, ◌≤◌, length}
use Rattle.aoe_flight.specs.Outstanding.{after_repeat, change_of}
use Rattle.aoe_flight.proofs.ValueLemmas.{Changed}
use Rattle.aoe_flight.proofs.table.Table.repeat.Given as goal

-- the commands in the slots below `from` have their change
abbrev pub invariant-flying : goal.invariant-flying
invariant-flying l = Changed (change_of l.ticket.0 (after_repeat l.now l.path l.wait)) l.fn.self l.self l.from × (length l.fn.self.slots ≤ l.end)

abbrev pub decreases-flying : goal.decreases-flying
decreases-flying l = l.end - l.from
