-- Commands that were sent, and the tags of their frames.
use Rattle.std.specs.Prelude.{ℕ, ◌≡◌, ◌+◌, ◌-◌, ◌<◌, ◌&&◌, ◌||◌, Bool, true, false, not, List, [], ◌∷◌, Option, Some, None, min, nat_lt, nat_le, nat_eq, if◌then◌else◌, All, Contains}
use Rattle.std.specs.List.{count_by, filter, list_any}
use Rattle.aoe_base.specs.declared.counted.Lifetimes.{Lifetimes}
use Rattle.aoe_base.specs.declared.counted.Millis.{Millis}
use Rattle.aoe_base.specs.declared.counted.PathNo.{PathNo}
use Rattle.aoe_base.specs.declared.counted.Ticket.{Ticket}
use Rattle.aoe_flight.specs.declared.outstanding.Outstanding.{Outstanding}

-- how long a command rests after its last send: as long as a frame of it can arrive, and then as long as a
-- response to that frame can
abbrev pub rest_time : Lifetimes → ℕ
rest_time life = life.requests.0 + life.responses.0

-- it has its outcome, and rested out
abbrev pub is_over : ℕ → ℕ → Outstanding → Bool
is_over rest now c = c.finished && nat_lt rest (now - c.flying.last.0)

-- the commands that fly or rest at the time `now`
abbrev pub live : ℕ → ℕ → List Outstanding → List Outstanding
live rest now commands = filter (λ c. not (is_over rest now c)) commands

abbrev pub flies_as : ℕ → Outstanding → Bool
flies_as ticket c = not c.finished && nat_eq c.ticket.0 ticket

abbrev pub flies_with : ℕ → Outstanding → Bool
flies_with tag c = not c.finished && nat_eq c.flying.tag tag

abbrev pub is_due : ℕ → Outstanding → Bool
is_due now c = not c.finished && nat_le c.wait.0 (now - c.flying.last.0)

abbrev pub is_expired : ℕ → ℕ → Outstanding → Bool
is_expired dead now c = not c.finished && nat_le dead (now - c.flying.first.0)

-- the time at which a command is due to be sent again
abbrev pub deadline : Outstanding → ℕ
deadline c = c.flying.last.0 + c.wait.0

-- a command is due before another, or at the same time with a lower ticket
abbrev pub precedes : Outstanding → Outstanding → Bool
precedes a b = nat_lt (deadline a) (deadline b) || (nat_eq (deadline a) (deadline b) && nat_lt a.ticket.0 b.ticket.0)

-- a command was sent for the first time before another
abbrev pub is_older : Outstanding → Outstanding → Bool
is_older a b = nat_lt a.flying.first.0 b.flying.first.0

-- a command was sent for the last time before another
abbrev pub is_earlier : Outstanding → Outstanding → Bool
is_earlier a b = nat_lt a.flying.last.0 b.flying.last.0

-- a command flies and has a ticket above a number
abbrev pub flies_above : ℕ → Outstanding → Bool
flies_above n c = not c.finished && nat_lt n c.ticket.0

-- a command that was sent for the first time
abbrev pub launched : Ticket → ℕ → Millis → PathNo → Millis → Outstanding
launched ticket tag now path wait = record {
  ticket = ticket;
  flying = record { tag = tag; first = now; last = now; path = path; sends = 1 };
  wait = wait;
  finished = false;
}

abbrev pub after_repeat : Millis → PathNo → Millis → Outstanding → Outstanding
after_repeat now path wait c = record c {
  flying = record c.flying { last = now; path = path; sends = min (c.flying.sends + 1) 32 };
  wait = wait;
}

abbrev pub after_finish : Outstanding → Outstanding
after_finish c = record c { finished = true }

-- a change of the flying command with a ticket
abbrev pub change_of : ℕ → (Outstanding → Outstanding) → Outstanding → Outstanding
change_of ticket change c = if flies_as ticket c then change c else c

-- a flying or resting command has the tag
abbrev pub has_tag : ℕ → Outstanding → Bool
has_tag tag c = nat_eq c.flying.tag tag

abbrev pub is_taken : List Outstanding → ℕ → Bool
is_taken commands tag = list_any (has_tag tag) commands

abbrev pub tag_count : List Outstanding → ℕ → ℕ
tag_count commands tag = count_by (has_tag tag) commands

-- tags go from 1 to 4294967295 and round; the one that comes so many steps after the next of `last`
abbrev pub tag_after : ℕ → ℕ → ℕ
tag_after last steps = if nat_lt (last + steps) 4294967295 then last + steps + 1 else last + steps + 1 - 4294967295

-- the tag is the first after `last` that no flying or resting command has
pub record IsNextTag (commands : List Outstanding) (last tag : ℕ) : Type 0 where
  pub steps : ℕ
  pub place : tag ≡ tag_after last steps
  pub free : is_taken commands tag ≡ false
  pub passed : (k : ℕ) → k < steps → is_taken commands (tag_after last k) ≡ true

-- of the commands that pass a test, the one that no other precedes
pub record IsFirst (test : Outstanding → Bool) (before : Outstanding → Outstanding → Bool) (commands : List Outstanding) (c : Outstanding) : Type 0 where
  pub there : Contains commands c
  pub passes : test c ≡ true
  pub least : All (λ other. test other ≡ true → before other c ≡ false) commands

-- a command with a lower ticket
abbrev pub lower : Outstanding → Outstanding → Bool
lower a b = nat_lt a.ticket.0 b.ticket.0

-- the command comes before the best so far, if there is one
abbrev pub is_better : (Outstanding → Outstanding → Bool) → Outstanding → Option Outstanding → Bool
is_better before c None = true
is_better before c (Some other) = before c other

-- the first of the commands that pass a test and of the best so far
abbrev pub best : (Outstanding → Bool) → (Outstanding → Outstanding → Bool) → Option Outstanding → List Outstanding → Option Outstanding
best test before so_far [] = so_far
best test before so_far (c ∷ commands) =
    best test before (if test c && is_better before c so_far then Some c else so_far) commands
