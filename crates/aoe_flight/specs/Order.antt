-- Entries in an order.
use Rattle.std.specs.Prelude.{ℕ}
use Rattle.aoe_sorted.specs.declared.rank.Rank.{Rank}
use Rattle.aoe_sorted.specs.Order.{SortedTable}
use Rattle.aoe_flight.specs.declared.order.Entry.{Entry}

abbrev pub OrderTable : Type 0
OrderTable = SortedTable Entry

abbrev pub rank_of : Entry → Rank
rank_of e = record { at = e.at; tie = e.tie; rest = e.slot }

-- an entry at a number, without a tie
abbrev pub entry_at : ℕ → ℕ → Entry
entry_at at slot = record { at = at; tie = 0; slot = slot }
