-- Clients in memory.
use Rattle.std.specs.Prelude.{ℕ, ◌+◌, ◌-◌, ◌==◌, ◌||◌, ◌&&◌, Bool, true, false, not, List, [], ◌∷◌, length, take, drop, min, nat_lt, Option, Some, None, Result, Ok, Err, if◌then◌else◌}
use Rattle.aoe_base.specs.declared.failure.Failed.{Failed}
use Rattle.aoe_io.specs.Memory.{counted}
use Rattle.aoe_clients.specs.declared.clients.Moved.{Moved}
use Rattle.aoe_clients.specs.declared.clients.Moved.TheVariants as moved
use Rattle.aoe_clients.specs.Clients.{ClientEvent, accepted, received, sent, left}

-- a client: what it has still to say, how many bytes it takes yet, and whether it stays when all is said and taken
pub record Caller : Type 0 where
  pub says : List ℕ
  pub takes : ℕ
  pub stays : Bool

-- the clients that are to come, the one that is there, what passed (the latest first), the most bytes that a call moves,
-- how much may pass in all, the faults so far, and which coming call fails, 0 where none does
pub record Calling : Type 0 where
  pub coming : List Caller
  pub here : Option Caller
  pub told : List ClientEvent
  pub most : ℕ
  pub room : ℕ
  pub faults : ℕ
  pub due : ℕ

-- what passed, and how much may pass in all
pub record Told : Type 0 where
  pub events : List ClientEvent
  pub room : ℕ

-- there is room for one thing more that passes, and for the end of the client behind it
abbrev pub has_room : ℕ → List ClientEvent → Bool
has_room room told = nat_lt (length told + 1) room

-- the client leaves: it said and took all, and doesn't stay
abbrev pub is_leaving : Caller → Bool
is_leaving c = not c.stays && (length c.says == 0) && (c.takes == 0)

-- the first of the clients that are to come
abbrev pub first_of : List Caller → Option Caller
first_of [] = None
first_of (c ∷ coming) = Some c

-- nobody is there any more, for this reason
abbrev pub without_client : Calling → ClientEvent → Calling
without_client c reason = record c { here = None; told = reason ∷ c.told }

-- what an accept answers and leaves
abbrev pub accept_of : Calling → Result Bool Failed × Calling
accept_of c =
    if c.due == 1
    then (Err record {}, record c { faults = counted c.faults; due = c.due - 1 })
    else if has_room c.room c.told && nat_lt 0 (length c.coming)
    then (Ok true, record c { coming = drop 1 c.coming; here = first_of c.coming; told = accepted ∷ c.told; due = c.due - 1 })
    else (Ok false, record c { due = c.due - 1 })

-- what a read of at most so many bytes of this client answers and leaves
abbrev pub read_from : Calling → Caller → ℕ → Moved × Calling
read_from c client n =
    if is_leaving client then (moved.Left, without_client c left)
    else if n == 0 || not (has_room c.room c.told) then (moved.Nothing, c)
    else (moved.Bytes n, record c { here = Some (record client { says = drop n client.says }); told = received (take n client.says) ∷ c.told })

-- what a read into room for so many bytes answers and leaves, where this client is there
abbrev pub read_of : Calling → Option Caller → ℕ → Moved × Calling
read_of c None room = (moved.Left, c)
read_of c (Some client) room =
    let after = record c { due = c.due - 1 } in
    if c.due == 1 then (moved.Left, without_client after left)
    else read_from after client (min (length client.says) (min room c.most))

-- what a write of this front of a piece to this client answers and leaves
abbrev pub write_to : Calling → Caller → List ℕ → Moved × Calling
write_to c client front =
    if length front == 0 || not (has_room c.room c.told) then (moved.Nothing, c)
    else (moved.Bytes (length front), record c { here = Some (record client { takes = client.takes - length front }); told = sent front ∷ c.told })

-- what a write of a piece answers and leaves, where this client is there
abbrev pub write_of : Calling → Option Caller → List ℕ → Moved × Calling
write_of c None piece = (moved.Left, c)
write_of c (Some client) piece =
    let after = record c { due = c.due - 1 } in
    if c.due == 1 then (moved.Left, without_client after left)
    else write_to after client (take (min client.takes c.most) piece)

-- what the client that is there says from now on
abbrev pub coming_of : Option Caller → List ℕ
coming_of None = []
coming_of (Some client) = client.says
