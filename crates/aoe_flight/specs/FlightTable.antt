-- What a host keeps of the commands that it sent.
use Rattle.std.specs.Prelude.{ℕ, ◌≡◌, ◌≤◌, Bool, List, [], length, map}
use Rattle.std.specs.List.{count_by}
use Rattle.aoe_base.specs.declared.counted.Lifetimes.{Lifetimes}
use Rattle.aoe_base.specs.Sizes.{most_room}
use Rattle.aoe_flight.specs.declared.outstanding.Outstanding.{Outstanding}
use Rattle.aoe_flight.specs.Outstanding.{change_of, live, rest_time, tag_count}

-- the most commands, how long a finished command rests, how long a command is waited for, the latest time
-- that was told, the tag given last, and the commands that fly or rest at that time, in no particular order
pub record FlightTable : Type 0 where
  pub room : ℕ
  pub rest : ℕ
  pub dead : ℕ
  pub latest : ℕ
  pub last_tag : ℕ
  pub commands : List Outstanding

abbrev pub no_commands : ℕ → Lifetimes → ℕ → FlightTable
no_commands room life dead = record {
  room = room;
  rest = rest_time life;
  dead = dead;
  latest = 0;
  last_tag = 0;
  commands = [];
}

-- the commands that fly or rest at a later time
abbrev pub live_at : FlightTable → ℕ → List Outstanding
live_at table now = live table.rest now table.commands

-- the table at a later time
abbrev pub at_time : FlightTable → ℕ → FlightTable
at_time table now = record table { latest = now; commands = live table.rest now table.commands }

-- the table at a later time, after a change of the flying command with a ticket
abbrev pub after_change : FlightTable → ℕ → (Outstanding → Outstanding) → ℕ → FlightTable
after_change table ticket change now = record table {
  latest = now;
  commands = live table.rest now (map (change_of ticket change) table.commands);
}

-- two lists have the same commands, in some order: as many of both pass each test
abbrev pub SameCommands : List Outstanding → List Outstanding → Type 0
SameCommands xs ys = (test : Outstanding → Bool) → count_by test xs ≡ count_by test ys

-- of these commands that were sent, the table has each that flies or rests
abbrev pub Recalls : FlightTable → List Outstanding → Type 0
Recalls table sent = SameCommands table.commands (live table.rest table.latest sent)

-- all fit in the room and in the memory, and no two have one tag
pub record FitsRoom (room capacity : ℕ) (commands : List Outstanding) : Type 0 where
  pub fits : length commands ≤ room
  pub reserved : room ≤ capacity
  pub few : room ≤ most_room
  pub distinct : (tag : ℕ) → tag_count commands tag ≤ 1
