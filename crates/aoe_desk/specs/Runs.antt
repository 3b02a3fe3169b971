-- Calls of a desk, one behind the other.
use Rattle.std.specs.Prelude.{ℕ, ◌≡◌, ◌+◌, ◌<◌, ◌≤◌, Bool, true, false, cond, nat_eq, List, [], ◌∷◌, drop, length, Some, None, IsSome, slice_get}
use Rattle.std.specs.List.{count_by}
use Rattle.aoe_base.specs.declared.counted.Ticket.{Ticket}
use Rattle.aoe_initiator.specs.declared.outcome.Done.{Done}
use Rattle.aoe_nbd.specs.declared.error.NbdError.{NbdError}
use Rattle.aoe_block.specs.Calls.{are_ended, next_part}
use Rattle.aoe_desk.specs.declared.flush.Flush.TheVariants.{Ended}
use Rattle.aoe_desk.specs.declared.request.OpenRequest.{OpenRequest}
use Rattle.aoe_desk.specs.declared.reply.Reply.{Reply}
use Rattle.aoe_desk.specs.Desks.{gave_up, hand, left, next_op, opened, refused, settle, DeskState, HasRoom, IsNew}
use Rattle.aoe_desk.specs.Requests.{is_flush_waiting, is_waiting}

-- a request is taken as it stands there then, or is refused; an operation is handed; a request is given up; a command was
-- done; the first reply was written; the client left
pub data Call : Type 0 where
  Takes : OpenRequest → Call
  Refuses : (handle : ℕ) → NbdError → Call
  Hands : Ticket → Call
  GivesUp : Call
  Settles : Done → Call
  Writes : Call
  Leaves : Call

abbrev pub after : Call → DeskState → DeskState
after (Takes r) d = opened r d
after (Refuses handle error) d = refused handle error d
after (Hands ticket) d = hand ticket d
after GivesUp d = gave_up d
after (Settles done) d = settle done d
after Writes d = record d { replies = drop 1 d.replies }
after Leaves d = left d

-- a desk after these calls, the latest of which stands first
abbrev pub after_all : ℕ → ℕ → List Call → DeskState
after_all total max [] = record { total = total; max = max; open_requests = []; gone = 0; replies = []; last = 0 }
after_all total max (call ∷ earlier) = after call (after_all total max earlier)

-- what a call asks of its caller: room for a request, an operation that is handed, and tickets that rise
abbrev pub CanCall : Call → DeskState → Type 0
CanCall (Takes r) d = (handle at : ℕ) × (reads lasts : Bool) × (bytes : List ℕ) × IsNew handle reads lasts at d.max bytes r × HasRoom (length bytes) d
CanCall (Refuses handle error) d = HasRoom 0 d
CanCall (Hands ticket) d = IsSome (next_op d) × (d.last < ticket.0)
CanCall GivesUp d = Unit {0}
CanCall (Settles done) d = Unit {0}
CanCall Writes d = Unit {0}
CanCall Leaves d = Unit {0}

abbrev pub IsRun : ℕ → ℕ → List Call → Type 0
IsRun total max [] = (0 < max) × (max ≤ 17)
IsRun total max (call ∷ earlier) = IsRun total max earlier × CanCall call (after_all total max earlier)

-- how many requests with a handle came
abbrev pub came : ℕ → List Call → ℕ
came handle [] = 0
came handle (Takes r ∷ earlier) = cond (nat_eq r.handle handle) 1 0 + came handle earlier
came handle (Refuses own error ∷ earlier) = cond (nat_eq own handle) 1 0 + came handle earlier
came handle (Hands ticket ∷ earlier) = came handle earlier
came handle (GivesUp ∷ earlier) = came handle earlier
came handle (Settles done ∷ earlier) = came handle earlier
came handle (Writes ∷ earlier) = came handle earlier
came handle (Leaves ∷ earlier) = came handle earlier

-- one where the first of these replies has the handle
abbrev pub first_with : ℕ → List Reply → ℕ
first_with handle [] = 0
first_with handle (r ∷ replies) = cond (nat_eq r.handle handle) 1 0

-- how many replies with a handle were written
abbrev pub written : ℕ → ℕ → ℕ → List Call → ℕ
written handle total max [] = 0
written handle total max (Takes r ∷ earlier) = written handle total max earlier
written handle total max (Refuses own error ∷ earlier) = written handle total max earlier
written handle total max (Hands ticket ∷ earlier) = written handle total max earlier
written handle total max (GivesUp ∷ earlier) = written handle total max earlier
written handle total max (Settles done ∷ earlier) = written handle total max earlier
written handle total max (Writes ∷ earlier) = first_with handle (after_all total max earlier).replies + written handle total max earlier
written handle total max (Leaves ∷ earlier) = written handle total max earlier

-- how many requests with a handle are open or have a reply that wasn't written
abbrev pub pending : ℕ → DeskState → ℕ
pending handle d = count_by (λ r. nat_eq r.handle handle) d.open_requests + count_by (λ r. nat_eq r.handle handle) d.replies

-- each part was read or written, and the flush, if one was asked for, was done
pub record IsDone (r : OpenRequest) : Type 0 where
  pub parts : are_ended r.block.parts ≡ true
  pub flush : r.lasts ≡ true → r.flush ≡ Ended

-- the flush of a request that is handed next: all of its parts were handed, and all operations of the requests that came before it
pub record IsNextFlush (d : DeskState) : Type 0 where
  pub place : ℕ
  pub request : OpenRequest
  pub there : slice_get d.open_requests place ≡ Some request
  pub waits : is_flush_waiting request.flush ≡ true
  pub parts : next_part request.block.parts ≡ None
  pub before : (k : ℕ) (r : OpenRequest) → k < place → slice_get d.open_requests k ≡ Some r → is_waiting r ≡ false
