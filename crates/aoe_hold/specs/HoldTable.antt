-- What a host keeps of its commands at one device.
use Rattle.std.specs.Prelude.{ℕ, ◌≡◌, ◌<◌, ◌≤◌, ◌^◌, ◌&&◌, Bool, true, false, not, take, nat_eq, nat_lt, nat_le, List, [], ◌∷◌, ◌++◌, Option, Some, None, All}
use Rattle.std.specs.List.{filter, list_all, list_any}
use Rattle.aoe_base.specs.declared.counted.Ticket.{Ticket}
use Rattle.aoe_base.specs.declared.sectors.Span.{Span}
use Rattle.aoe_base.specs.declared.counted.Millis.{Millis}
use Rattle.aoe_hold.specs.declared.command.Command.{Command}
use Rattle.aoe_hold.specs.declared.command.Kind.{Kind}
use Rattle.aoe_hold.specs.declared.command.Stage.TheVariants.{Unsent}
use Rattle.aoe_hold.specs.Commands.{after_stage, clear_tickets, is_past, live, stage_finished, stage_sent, unsent_count}
use Rattle.aoe_hold.specs.Extents.{kept_extent, no_extent, widened, Extent}

-- how long a frame can arrive, the latest time that was told, the greatest ticket entered, and the commands
-- that are held, in the order of their tickets; the tickets of those that were found clear and weren't sent; and
-- what the commands were at most since none was held
pub record HoldTable : Type 0 where
  pub life : ℕ
  pub latest : ℕ
  pub greatest : Option ℕ
  pub commands : List Command
  pub ready : List ℕ
  pub extent : Extent

abbrev pub no_commands : ℕ → HoldTable
no_commands life = record { life = life; latest = 0; greatest = None; commands = []; ready = []; extent = no_extent }

-- of these commands that were entered, the table holds each that a later answer can go by
abbrev pub Recalls : HoldTable → List Command → Type 0
Recalls table entered = live table.life table.latest table.commands ≡ live table.life table.latest entered

abbrev pub new_command : Ticket → Kind → Span → Command
new_command ticket kind span = record { ticket = ticket; kind = kind; span = span; stage = Unsent }

-- a command is entered, and of the others those are held on that a later answer can go by
abbrev pub with_command : HoldTable → Command → HoldTable
with_command table c = record table {
  greatest = Some c.ticket.0;
  commands = live table.life table.latest table.commands ++ c ∷ [];
  extent = widened (kept_extent table.extent (live table.life table.latest table.commands)) c;
}

-- the commands that are clear at a later time
abbrev pub at_time : HoldTable → ℕ → HoldTable
at_time table now = record table { latest = now; ready = clear_tickets table.life now table.commands }

abbrev pub after_send : HoldTable → ℕ → Millis → HoldTable
after_send table ticket now = record table {
  latest = now.0;
  commands = after_stage ticket (stage_sent now) table.commands;
  ready = filter (λ other. not (nat_eq other ticket)) table.ready;
}

abbrev pub after_finish : HoldTable → ℕ → HoldTable
after_finish table ticket = record table { commands = after_stage ticket stage_finished table.commands }

-- the commands stand in the order of their tickets, and none stands twice
abbrev pub is_ascending : List Command → Bool
is_ascending [] = true
is_ascending (c ∷ commands) =
    list_all (λ later. nat_lt c.ticket.0 later.ticket.0) commands && is_ascending commands

-- no ticket is above the greatest that was entered
abbrev pub is_up_to : Option ℕ → List Command → Bool
is_up_to None [] = true
is_up_to None (c ∷ commands) = false
is_up_to (Some greatest) commands = list_all (λ c. nat_le c.ticket.0 greatest) commands

-- the commands stand in order up to the greatest ticket, and those that were never sent are counted
abbrev pub StandInOrder : Option ℕ → ℕ → List Command → Type 0
StandInOrder greatest unsent commands =
    (is_ascending commands ≡ true) × (is_up_to greatest commands ≡ true) × (unsent ≡ unsent_count commands)

-- before this time none of the commands is past
abbrev pub NonePastBefore : ℕ → ℕ → List Command → Type 0
NonePastBefore life from commands = (now : ℕ) → now < from → All (λ c. is_past life now c ≡ false) commands

-- at each time of 64 bits that isn't before this one, one of the commands is past
abbrev pub OnePastFrom : ℕ → ℕ → List Command → Type 0
OnePastFrom life from commands = (now : ℕ) → now < 2 ^ 64 → from ≤ now → list_any (is_past life now) commands ≡ true

-- so many of the first commands are past
abbrev pub ArePast : ℕ → ℕ → ℕ → List Command → Type 0
ArePast life latest gone commands = All (λ c. is_past life latest c ≡ true) (take gone commands)
