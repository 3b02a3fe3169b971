-- An open request: what an operation that is handed, and an outcome, make of it.
use Rattle.std.specs.Prelude.{ℕ, ◌≡◌, ◌≢◌, ◌+◌, ◌-◌, ◌==◌, ◌&&◌, ◌||◌, ◌≤◌, Bool, true, false, cond, not, nat_eq, nat_lt, List, [], Option, Some, None, is_some, is_none, option_map, if◌then◌else◌}
use Rattle.std.specs.List.{count_by}
use Rattle.aoe_base.specs.declared.counted.Ticket.{Ticket}
use Rattle.aoe_initiator.specs.declared.op.Op.{Op}
use Rattle.aoe_initiator.specs.declared.op.Op.TheVariants.{Flush as FlushOp}
use Rattle.aoe_initiator.specs.declared.outcome.Done.{Done}
use Rattle.aoe_initiator.specs.declared.outcome.Outcome.{Outcome}
use Rattle.aoe_initiator.specs.declared.outcome.Outcome.TheVariants.{Read, Written, Flushed, Told, AtaError, AoeError, GaveUp}
use Rattle.aoe_nbd.specs.declared.error.NbdError.{NbdError}
use Rattle.aoe_nbd.specs.declared.error.NbdError.TheVariants.{NotPermitted, Failed as NotDone, NoMemory}
use Rattle.aoe_block.specs.declared.took.Took.{Took}
use Rattle.aoe_block.specs.declared.took.Took.TheVariants.{NotMine, More, Whole, Part as PartTook}
use Rattle.aoe_block.specs.Calls.{hand as hand_part, is_broken, next_part, op_of, part_of, settle as settle_block, took, AreUpTo}
use Rattle.aoe_block.specs.Parts.{joined, Part}
use Rattle.aoe_block.specs.Stages.{is_handed, is_pending, is_under_way}
use Rattle.aoe_desk.specs.declared.flush.Flush.{Flush}
use Rattle.aoe_desk.specs.declared.flush.Flush.TheVariants.{No, Waiting, Handed, Ended, Failed}
use Rattle.aoe_desk.specs.declared.request.OpenRequest.{OpenRequest}
use Rattle.aoe_desk.specs.declared.reply.Reply.{Reply}

-- the error of an outcome (AoEr11, "Error": 6 is "Target is reserved"): EPERM where others reserve the target, and
-- EIO for every other refusal, and for a command that was given up
abbrev pub error_of : Outcome → NbdError
error_of (Read bytes) = NotDone
error_of Written = NotDone
error_of Flushed = NotDone
error_of (Told args) = NotDone
error_of (AtaError status error) = NotDone
error_of (AoeError error) = if error == 6 then NotPermitted else NotDone
error_of (GaveUp first now) = NotDone

-- the error of a flush that ended, or nothing where it was done
abbrev pub flush_error : Outcome → Option NbdError
flush_error (Read bytes) = Some NotDone
flush_error Written = Some NotDone
flush_error Flushed = None
flush_error (Told args) = Some NotDone
flush_error (AtaError status error) = Some NotDone
flush_error (AoeError error) = Some (error_of (AoeError error))
flush_error (GaveUp first now) = Some NotDone

-- the error of a part that ended, or nothing where it was read or written
abbrev pub part_error : Took → Option NbdError
part_error (NotMine done) = None
part_error More = None
part_error Whole = None
part_error (PartTook outcome) = Some (error_of outcome)

-- the first that comes decides
abbrev pub first_error : Option NbdError → Option NbdError → Option NbdError
first_error None error = error
first_error (Some before) error = Some before

abbrev pub is_flush_waiting : Flush → Bool
is_flush_waiting No = false
is_flush_waiting Waiting = true
is_flush_waiting (Handed ticket) = false
is_flush_waiting Ended = false
is_flush_waiting Failed = false

-- under way with a ticket
abbrev pub is_flush_handed : ℕ → Flush → Bool
is_flush_handed ticket No = false
is_flush_handed ticket Waiting = false
is_flush_handed ticket (Handed own) = nat_eq own.0 ticket
is_flush_handed ticket Ended = false
is_flush_handed ticket Failed = false

-- under way
abbrev pub is_flush_out : Flush → Bool
is_flush_out No = false
is_flush_out Waiting = false
is_flush_out (Handed ticket) = true
is_flush_out Ended = false
is_flush_out Failed = false

-- a flush that wasn't handed is given up
abbrev pub without_waiting : Flush → Flush
without_waiting No = No
without_waiting Waiting = No
without_waiting (Handed ticket) = Handed ticket
without_waiting Ended = Ended
without_waiting Failed = Failed

-- an operation is still to be handed: a part, and then the flush
abbrev pub is_waiting : OpenRequest → Bool
is_waiting r = nat_lt 0 r.parts || is_flush_waiting r.flush

-- each operation has its outcome
abbrev pub is_finished : OpenRequest → Bool
is_finished r = not (is_waiting r) && (r.under_way == 0)

-- the operation that is to be handed next: the parts in order, and the flush behind them
abbrev pub next_op : OpenRequest → Option Op
next_op r =
    if nat_lt 0 r.parts then option_map (op_of r.block.write) (next_part r.block.parts)
    else (if is_flush_waiting r.flush then Some FlushOp else None)

-- it is under way with a ticket
abbrev pub hand_next : Ticket → OpenRequest → OpenRequest
hand_next ticket r =
    if nat_lt 0 r.parts
    then record r { block = record r.block { parts = hand_part ticket r.block.parts }; parts = r.parts - 1 }
    else record r { flush = Handed ticket }

abbrev pub hand : Ticket → OpenRequest → OpenRequest
hand ticket r = record (hand_next ticket r) { under_way = r.under_way + 1; last = ticket }

-- an error came, or none
abbrev pub failed : Option NbdError → OpenRequest → OpenRequest
failed error r = record r { error = first_error r.error error }

-- an operation has its outcome
abbrev pub ended : Option NbdError → OpenRequest → OpenRequest
ended error r = record r { under_way = r.under_way - 1; error = first_error r.error error }

-- what wasn't handed never will be, for want of memory
abbrev pub gave_up : OpenRequest → OpenRequest
gave_up r = record r { parts = 0; flush = without_waiting r.flush; error = first_error r.error (Some NoMemory) }

-- one of its operations is under way with a ticket
abbrev pub owns : ℕ → OpenRequest → Bool
owns ticket r = is_flush_handed ticket r.flush || is_some (part_of ticket r.block.parts)

abbrev pub flush_ended : Outcome → Flush
flush_ended outcome = if is_none (flush_error outcome) then Ended else Failed

-- the operation that is under way with the ticket has its outcome
abbrev pub settle : Done → OpenRequest → OpenRequest
settle done r =
    if is_flush_handed done.ticket.0 r.flush
    then ended (flush_error done.outcome) (record r { flush = flush_ended done.outcome })
    else ended (part_error (took r.block done)) (record r { block = settle_block r.block done })

-- the data of a reply: the sectors of a read without an error
abbrev pub data_of : OpenRequest → List ℕ
data_of r = if r.reads && is_none r.error then joined r.block.parts else []

abbrev pub reply_of : OpenRequest → Reply
reply_of r = record { handle = r.handle; error = r.error; payload = data_of r; room = r.room }

-- how many of its operations are under way with a ticket
abbrev pub count_with : ℕ → OpenRequest → ℕ
count_with ticket r = count_by (λ p. is_handed ticket p.stage) r.block.parts + cond (is_flush_handed ticket r.flush) 1 0

-- the parts that weren't handed, and the operations that are under way
abbrev pub count_pending : List Part → ℕ
count_pending parts = count_by (λ p. is_pending p.stage) parts

abbrev pub count_out : OpenRequest → ℕ
count_out r = count_by (λ p. is_under_way p.stage) r.block.parts + cond (is_flush_out r.flush) 1 0

-- an open request: while an operation waits its parts are those that weren't handed; and as many of its operations as it
-- says are under way, no two with one ticket, and none with one past the last
pub record IsCounted (r : OpenRequest) : Type 0 where
  pub pending : is_waiting r ≡ true → r.parts ≡ count_pending r.block.parts
  pub counted : r.under_way ≡ count_out r
  pub parts_up : AreUpTo r.last.0 r.block.parts
  pub flush_up : (ticket : ℕ) → is_flush_handed ticket r.flush ≡ true → ticket ≤ r.last.0
  pub once : (ticket : ℕ) → count_with ticket r ≤ 1

-- an open request without an error: nothing of it failed or was given up, and its flush, if it wants one, is there
pub record IsWell (r : OpenRequest) : Type 0 where
  pub unbroken : is_broken r.block ≡ false
  pub all : r.parts ≡ count_pending r.block.parts
  pub flush : r.flush ≢ Failed
  pub lasting : r.lasts ≡ true → r.flush ≢ No

pub record IsOpen (r : OpenRequest) : Type 0 where
  pub counted : IsCounted r
  pub reads : r.reads ≡ not r.block.write
  pub well : r.error ≡ None → IsWell r
