-- How many of the held commands are looked at when one is entered.
use Rattle.std.specs.Prelude.{ℕ, ◌+◌, ◌*◌, ◌-◌, ◌&&◌, ◌||◌, Bool, length, nat_le, nat_lt, if◌then◌else◌}
use Rattle.std.specs.List.{count_by, list_any}
use Rattle.aoe_hold.specs.declared.command.Command.{Command}
use Rattle.aoe_hold.specs.Commands.{is_past, is_write}
use Rattle.aoe_hold.specs.Extents.{goes_by_span, Extent}
use Rattle.aoe_hold.specs.HoldTable.{HoldTable}

-- a command begins inside the span of a new one, or no further ahead of it than a command within the extent reaches
abbrev pub begins_near : Extent → Command → Command → Bool
begins_near extent new c = nat_le (new.span.at - extent.reach) c.span.at && nat_lt c.span.at (new.span.at + new.span.count)

-- one of the two writes, and the command begins near the new one
abbrev pub is_near : Extent → Command → Command → Bool
is_near extent new c = (is_write new.kind || is_write c.kind) && begins_near extent new c

-- to find what keeps a new command back: each command that is near it, twice, or, where the new one doesn't go by its span, each
abbrev pub looks_back : HoldTable → Command → ℕ
looks_back table new =
    if goes_by_span table.extent new.kind then 2 * count_by (is_near table.extent new) table.commands else length table.commands

-- to drop those that are past: each command where one is past, and else none
abbrev pub looks_to_drop : HoldTable → ℕ
looks_to_drop table = if list_any (is_past table.life table.latest) table.commands then length table.commands else 0
