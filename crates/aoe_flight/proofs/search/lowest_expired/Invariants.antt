use Rattle.std.proofs.Common.{◌≡◌, None}
use Rattle.slab.specs.Slab.{values}
use Rattle.aoe_flight.specs.Outstanding.{best, is_expired, lower}
use Rattle.aoe_flight.proofs.SlotLemmas.{left}
use Rattle.aoe_flight.proofs.search.lowest_expired.Given as goal

-- what the entries that are left give is what all give
abbrev pub invariant-commands : goal.invariant-commands
invariant-commands l =
    (goal.iterator-commands).can_next l.command-iterator ×
    (goal.iterator-commands).is_finite l.command-iterator ×
    (best (is_expired l.dead.0 l.now.0) lower None (values l.commands) ≡ best (is_expired l.dead.0 l.now.0) lower l.first (left l.command-iterator))
