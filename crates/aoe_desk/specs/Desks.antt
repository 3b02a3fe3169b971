-- A desk as contracts see it, and what its calls do.
use Rattle.std.specs.Prelude.{ℕ, ◌≡◌, ◌==◌, ◌+◌, ◌-◌, ◌<◌, ◌≤◌, ◌⊎◌, zero, suc, Bool, not, nat_lt, List, [], ◌∷◌, ◌++◌, length, Option, Some, None, option_and_then, slice_get, All, if◌then◌else◌}
use Rattle.std.specs.List.{position, remove, sum_by}
use Rattle.aoe_base.specs.declared.counted.Ticket.{Ticket}
use Rattle.aoe_initiator.specs.declared.op.Op.{Op}
use Rattle.aoe_initiator.specs.declared.outcome.Done.{Done}
use Rattle.aoe_nbd.specs.declared.error.NbdError.{NbdError}
use Rattle.aoe_nbd.specs.declared.error.NbdError.TheVariants.{Invalid, NoMemory, NoSpace}
use Rattle.aoe_block.specs.Parts.{IsCut}
use Rattle.aoe_desk.specs.declared.flush.Flush.TheVariants.{No, Waiting}
use Rattle.aoe_desk.specs.declared.request.OpenRequest.{OpenRequest}
use Rattle.aoe_desk.specs.declared.reply.Reply.{Reply}
use Rattle.aoe_desk.specs.Requests.{count_with, gave_up as gave_up_request, hand as hand_request, is_finished, is_waiting, next_op as next_of, owns, reply_of, settle as settle_request, IsOpen}

-- a desk: how many sectors its device has and takes in one command; the requests some of whose operations have no outcome, in the
-- order in which they came, of which the first so many are of clients that left; the replies that weren't written to their last
-- byte, in the order of completion; and the last ticket
pub record DeskState : Type 0 where
  pub total : ℕ
  pub max : ℕ
  pub open_requests : List OpenRequest
  pub gone : ℕ
  pub replies : List Reply
  pub last : ℕ

-- how many requests there are, how many bytes they hold, and how many operations are under way
abbrev pub request_count : DeskState → ℕ
request_count d = length d.open_requests + length d.replies

abbrev pub held : DeskState → ℕ
held d = sum_by (λ r. r.room) d.open_requests + sum_by (λ r. r.room) d.replies

abbrev pub under_way : DeskState → ℕ
under_way d = sum_by (λ r. r.under_way) d.open_requests

-- a request that holds so many bytes may be taken: fewer than 128 are there, and with it no more than 32 MiB are held
pub record HasRoom (len : ℕ) (d : DeskState) : Type 0 where
  pub few : request_count d < 128
  pub short : held d + len ≤ 33554432

-- a request that came, as it stands behind the others: all of its parts and its flush wait
pub record IsNew (handle : ℕ) (reads lasts : Bool) (at max : ℕ) (bytes : List ℕ) (r : OpenRequest) : Type 0 where
  pub handle_is : r.handle ≡ handle
  pub reads_is : r.reads ≡ reads
  pub write_is : r.block.write ≡ not reads
  pub cut : IsCut at max bytes r.block.parts
  pub parts_is : r.parts ≡ length r.block.parts
  pub lasts_is : r.lasts ≡ lasts
  pub flush_is : r.flush ≡ (if lasts then Waiting else No)
  pub under_way_is : r.under_way ≡ 0
  pub last_is : r.last.0 ≡ 0
  pub error_is : r.error ≡ None
  pub room_is : r.room ≡ length bytes

-- a request is answered with an error, and isn't carried out
abbrev pub refused : ℕ → NbdError → DeskState → DeskState
refused handle error d = record d { replies = d.replies ++ record { handle = handle; error = Some error; payload = []; room = 0 } ∷ [] }

-- the error of a read or a write whose sectors aren't all within the device
abbrev pub outside : Bool → NbdError
outside reads = if reads then Invalid else NoSpace

abbrev pub opened : OpenRequest → DeskState → DeskState
opened r d = record d { open_requests = d.open_requests ++ r ∷ [] }

-- a request was taken, or there was no memory for it
abbrev pub IsTaken : ℕ → Bool → Bool → ℕ → List ℕ → DeskState → DeskState → Type 0
IsTaken handle reads lasts at bytes old new =
    ((r : OpenRequest) × IsNew handle reads lasts at old.max bytes r × (r.block.total ≡ old.total) × (r.block.max ≡ old.max) × (new ≡ opened r old))
    ⊎ (new ≡ refused handle NoMemory old)

-- a change of the element at a place
abbrev pub change_at : {A : Type 0} → ℕ → (A → A) → List A → List A
change_at n change [] = []
change_at zero change (x ∷ xs) = change x ∷ xs
change_at (suc n) change (x ∷ xs) = x ∷ change_at n change xs

-- the first request that has an operation to be handed
abbrev pub first_waiting : DeskState → Option ℕ
first_waiting d = position is_waiting d.open_requests

abbrev pub next_at : List OpenRequest → Option ℕ → Option Op
next_at open_requests None = None
next_at open_requests (Some k) = option_and_then next_of (slice_get open_requests k)

-- the operation that is to be handed next, where fewer than 4096 are under way
abbrev pub next_op : DeskState → Option Op
next_op d = if under_way d == 4096 then None else next_at d.open_requests (first_waiting d)

abbrev pub hand_at : Ticket → Option ℕ → DeskState → DeskState
hand_at ticket None d = d
hand_at ticket (Some k) d = record d { open_requests = change_at k (hand_request ticket) d.open_requests; last = ticket.0 }

-- the next operation is under way with a ticket
abbrev pub hand : Ticket → DeskState → DeskState
hand ticket d = hand_at ticket (first_waiting d) d

-- the request at a place is finished: it goes, and is answered unless its client left
abbrev pub completed : ℕ → OpenRequest → DeskState → DeskState
completed k r d =
    if nat_lt k d.gone
    then record d { open_requests = remove d.open_requests k; gone = d.gone - 1 }
    else record d { open_requests = remove d.open_requests k; replies = d.replies ++ reply_of r ∷ [] }

abbrev pub close_if : ℕ → Option OpenRequest → DeskState → DeskState
close_if k None d = d
close_if k (Some r) d = if is_finished r then completed k r d else d

abbrev pub close : ℕ → DeskState → DeskState
close k d = close_if k (slice_get d.open_requests k) d

abbrev pub change_request : ℕ → (OpenRequest → OpenRequest) → DeskState → DeskState
change_request k change d = record d { open_requests = change_at k change d.open_requests }

abbrev pub give_up_at : Option ℕ → DeskState → DeskState
give_up_at None d = d
give_up_at (Some k) d = close k (change_request k gave_up_request d)

-- the request of the next operation is given up
abbrev pub gave_up : DeskState → DeskState
gave_up d = give_up_at (first_waiting d) d

-- the first request that has an operation under way with a ticket
abbrev pub owner : ℕ → DeskState → Option ℕ
owner ticket d = position (owns ticket) d.open_requests

abbrev pub settle_at : Done → Option ℕ → DeskState → DeskState
settle_at done None d = d
settle_at done (Some k) d = close k (change_request k (settle_request done) d)

-- a command was done
abbrev pub settle : Done → DeskState → DeskState
settle done d = settle_at done (owner done.ticket.0 d) d

-- the client left: its replies are dropped, and what is open isn't answered
abbrev pub left : DeskState → DeskState
left d = record d { gone = length d.open_requests; replies = [] }

-- what is so of each desk
pub record IsDesk (d : DeskState) : Type 0 where
  pub some : 0 < d.max
  pub short_parts : d.max ≤ 17
  pub each : All IsOpen d.open_requests
  pub tickets : All (λ r. r.last.0 ≤ d.last) d.open_requests
  pub once : (ticket : ℕ) → sum_by (count_with ticket) d.open_requests ≤ 1
  pub gone : d.gone ≤ length d.open_requests
  pub few : request_count d ≤ 128
  pub short : held d ≤ 33554432
  pub bounded : under_way d ≤ 4096

-- what a desk counts, and the room that it has made
pub record IsKept (d : DeskState) (held_open held_replies out room_open room_replies : ℕ) : Type 0 where
  pub desk : IsDesk d
  pub open_is : held_open ≡ sum_by (λ r. r.room) d.open_requests
  pub replies_is : held_replies ≡ sum_by (λ r. r.room) d.replies
  pub out_is : out ≡ under_way d
  pub open_room : 128 ≤ room_open
  pub replies_room : 128 ≤ room_replies
