-- The commands of one host at one device, and which of them may be sent for the first time.
use Rattle.std.specs.Prelude.{ℕ, ◌≡◌, ◌-◌, ◌<◌, ◌&&◌, ◌||◌, Bool, true, false, not, List, map, nat_lt, nat_eq, if◌then◌else◌}
use Rattle.std.specs.List.{All, count_by, filter, list_any}
use Rattle.aoe_base.specs.Spans.{overlap}
use Rattle.aoe_base.specs.declared.counted.Millis.{Millis}
use Rattle.aoe_hold.specs.declared.command.Command.{Command}
use Rattle.aoe_hold.specs.declared.command.Kind.{Kind}
use Rattle.aoe_hold.specs.declared.command.Kind.TheVariants.{Write, Flush, Edit}
use Rattle.aoe_hold.specs.declared.command.Stage.{Stage}
use Rattle.aoe_hold.specs.declared.command.Stage.TheVariants.{Unsent, Flying, Finished}

abbrev pub is_write : Kind → Bool
is_write Write = true
is_write _ = false

abbrev pub is_flush : Kind → Bool
is_flush Flush = true
is_flush _ = false

abbrev pub is_edit : Kind → Bool
is_edit Edit = true
is_edit _ = false

-- two commands must keep their order: their spans overlap and one writes, or one is a flush and the
-- other a write, or both are edits
abbrev pub conflict : Command → Command → Bool
conflict a b =
    (overlap a.span b.span && (is_write a.kind || is_write b.kind))
    || (is_flush a.kind && is_write b.kind)
    || (is_write a.kind && is_flush b.kind)
    || (is_edit a.kind && is_edit b.kind)

-- one was entered before the other, and they conflict
abbrev pub comes_first : Command → Command → Bool
comes_first earlier later = nat_lt earlier.ticket.0 later.ticket.0 && conflict earlier later

-- a frame that comes late can still change what the device has
abbrev pub has_effect : Kind → Bool
has_effect kind = is_write kind || is_edit kind

-- a command that rests on what earlier ones left
abbrev pub rests_on_effects : Kind → Bool
rests_on_effects kind = is_write kind || is_flush kind || is_edit kind

abbrev pub unsent : Stage → Bool
unsent Unsent = true
unsent _ = false

abbrev pub is_unsent : Command → Bool
is_unsent c = unsent c.stage

abbrev pub finished : Stage → Bool
finished (Finished last) = true
finished _ = false

-- at the time `now` no frame that was sent by the time `last` can arrive any more
abbrev pub is_gone : ℕ → ℕ → ℕ → Bool
is_gone life now last = nat_lt life (now - last)

-- no frame that was sent for a command can arrive any more
abbrev pub all_gone : ℕ → ℕ → Stage → Bool
all_gone life now Unsent = true
all_gone life now (Flying last) = is_gone life now last.0
all_gone life now (Finished last) = is_gone life now last.0

-- a later command has to wait for this one: they conflict, and this one isn't finished, or its frames
-- can still change what the later one rests on
abbrev pub keeps_back : ℕ → ℕ → Command → Command → Bool
keeps_back life now earlier later =
    nat_lt earlier.ticket.0 later.ticket.0 && conflict earlier later
    && (not (finished earlier.stage)
    || (has_effect earlier.kind && rests_on_effects later.kind && not (all_gone life now earlier.stage)))

-- a command may be sent for the first time, by all that were entered
abbrev pub is_clear : ℕ → ℕ → List Command → Command → Bool
is_clear life now entered c = is_unsent c && not (list_any (λ earlier. keeps_back life now earlier c) entered)

-- the same in the words of its parts: it wasn't sent; each earlier command in conflict is finished; and,
-- where it rests on effects, no frame of an earlier write or edit in conflict can arrive any more
pub record IsClear (life now : ℕ) (entered : List Command) (c : Command) : Type 0 where
  pub never_sent : c.stage ≡ Unsent
  pub done : All (λ earlier. earlier.ticket.0 < c.ticket.0 → conflict earlier c ≡ true → finished earlier.stage ≡ true) entered
  pub gone : rests_on_effects c.kind ≡ true
      → All (λ earlier. earlier.ticket.0 < c.ticket.0 → conflict earlier c ≡ true → has_effect earlier.kind ≡ true
      → all_gone life now earlier.stage ≡ true) entered

-- the tickets of those that may be sent for the first time
abbrev pub clear_tickets : ℕ → ℕ → List Command → List ℕ
clear_tickets life now entered = map (λ c. c.ticket.0) (filter (is_clear life now entered) entered)

-- how many were never sent
abbrev pub unsent_count : List Command → ℕ
unsent_count entered = count_by is_unsent entered

-- a command is sent at the time `now`; a finished one isn't sent any more
abbrev pub stage_sent : Millis → Stage → Stage
stage_sent now Unsent = Flying now
stage_sent now (Flying last) = Flying now
stage_sent now (Finished last) = Finished last

-- a command that flies is finished
abbrev pub stage_finished : Stage → Stage
stage_finished Unsent = Unsent
stage_finished (Flying last) = Finished last
stage_finished (Finished last) = Finished last

-- the commands after the stage of one of them changed
abbrev pub with_stage : ℕ → (Stage → Stage) → Command → Command
with_stage ticket change c = if nat_eq c.ticket.0 ticket then record c { stage = change c.stage } else c

abbrev pub after_stage : ℕ → (Stage → Stage) → List Command → List Command
after_stage ticket change entered = map (with_stage ticket change) entered

-- finished, and none of its frames can arrive any more: no later answer goes by it
abbrev pub over : ℕ → ℕ → Stage → Bool
over life now (Finished last) = is_gone life now last.0
over life now _ = false

abbrev pub is_past : ℕ → ℕ → Command → Bool
is_past life now c = over life now c.stage

-- the commands that a later answer can go by
abbrev pub live : ℕ → ℕ → List Command → List Command
live life now entered = filter (λ c. not (is_past life now c)) entered
