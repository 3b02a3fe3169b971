-- What a desk did for its requests, by its calls, the latest of which stands first: which operations it handed to the host, what came of them,
-- and what a reply says of them.
use Rattle.std.specs.Prelude.{ℕ, ◌≡◌, ◌<◌, ◌/◌, ◌⊎◌, Bool, true, false, List, [], ◌∷◌, ◌++◌, length, Some, Contains}
use Rattle.aoe_base.specs.declared.counted.Ticket.{Ticket}
use Rattle.aoe_base.specs.declared.sectors.Span.{Span}
use Rattle.aoe_desk.specs.declared.reply.Reply.{Reply}
use Rattle.aoe_desk.specs.declared.request.OpenRequest.{OpenRequest}
use Rattle.aoe_desk.specs.Desks.{next_op, IsNew}
use Rattle.aoe_desk.specs.Runs.{after_all, Call}
use Rattle.aoe_desk.specs.Runs.Call.{Hands, Settles, Takes}
use Rattle.aoe_initiator.specs.declared.op.Op.{Op}
use Rattle.aoe_initiator.specs.declared.op.Op.TheVariants as op
use Rattle.aoe_initiator.specs.declared.outcome.Done.{Done}
use Rattle.aoe_initiator.specs.declared.outcome.Outcome.{Outcome}
use Rattle.aoe_initiator.specs.declared.outcome.Outcome.TheVariants as outcome
use Rattle.aoe_initiator.specs.Op.{span_of}
use Rattle.aoe_target.specs.Sectors.{in_span, value_in}

-- an operation was handed to the host, as the command with this ticket: it was the desk's next one
abbrev pub IsHanded : ℕ → ℕ → List Call → Ticket → Op → Type 0
IsHanded total max [] ticket o = ⊥
IsHanded total max (Hands own ∷ earlier) ticket o = ((own ≡ ticket) × (next_op (after_all total max earlier) ≡ Some o)) ⊎ IsHanded total max earlier ticket o
IsHanded total max (_ ∷ earlier) ticket o = IsHanded total max earlier ticket o

-- the desk was given this outcome of a command
abbrev pub IsSettled : List Call → Done → Type 0
IsSettled [] done = ⊥
IsSettled (Settles own ∷ earlier) done = (own ≡ done) ⊎ IsSettled earlier done
IsSettled (_ ∷ earlier) done = IsSettled earlier done

-- an operation was handed, and this came of it
pub record IsCarriedOut (total max : ℕ) (calls : List Call) (ticket : Ticket) (o : Op) (outcome : Outcome) : Type 0 where
  pub handed : IsHanded total max calls ticket o
  pub settled : IsSettled calls (record { ticket = ticket; outcome = outcome })

-- what a client asks for: to read as many bytes as these from a sector on, or to write these there; and whether what was written is to be
-- flushed before it is answered (FUA). FLUSH is a write of no bytes that is to be flushed.
pub record Asked : Type 0 where
  pub handle : ℕ
  pub reads : Bool
  pub lasts : Bool
  pub at : ℕ
  pub bytes : List ℕ

abbrev pub span_asked : Asked → Span
span_asked x = record { at = x.at; count = length x.bytes / 512 }

-- the desk took this request
pub record HasCome (total max : ℕ) (calls : List Call) (x : Asked) : Type 0 where
  pub later : List Call
  pub request : OpenRequest
  pub earlier : List Call
  pub order : calls ≡ later ++ Takes request ∷ earlier
  pub is_new : IsNew x.handle x.reads x.lasts x.at max x.bytes request

-- the last ticket before it
abbrev pub last_before : {total max : ℕ} {calls : List Call} {x : Asked} → HasCome total max calls x → ℕ
last_before {total} {max} come = (after_all total max come.earlier).last

-- one of its sectors was read behind ticket `since`, by a command with a ticket past that, and these data of the whole request have just what that read
pub record IsRead (total max : ℕ) (calls : List Call) (since : ℕ) (x : Asked) (bytes_read : List ℕ) (sector : ℕ) : Type 0 where
  pub ticket : Ticket
  pub span : Span
  pub bytes : List ℕ
  pub behind : since < ticket.0
  pub carried_out : IsCarriedOut total max calls ticket (op.Read span) (outcome.Read bytes)
  pub inside : in_span span sector ≡ true
  pub same : value_in (span_asked x) bytes_read sector ≡ value_in span bytes sector

-- one of its sectors was written so, with what the request has for it
pub record IsWritten (total max : ℕ) (calls : List Call) (since : ℕ) (x : Asked) (sector : ℕ) : Type 0 where
  pub ticket : Ticket
  pub at : ℕ
  pub bytes : List ℕ
  pub behind : since < ticket.0
  pub carried_out : IsCarriedOut total max calls ticket (op.Write at bytes) outcome.Written
  pub inside : in_span (span_of (op.Write at bytes)) sector ≡ true
  pub same : value_in (span_asked x) x.bytes sector ≡ value_in (span_of (op.Write at bytes)) bytes sector

-- and a flush was done
pub record IsFlushed (total max : ℕ) (calls : List Call) (since : ℕ) : Type 0 where
  pub ticket : Ticket
  pub behind : since < ticket.0
  pub carried_out : IsCarriedOut total max calls ticket op.Flush outcome.Flushed

-- a reply stands at the desk, or stood there
pub record IsReplied (total max : ℕ) (calls : List Call) (reply : Reply) : Type 0 where
  pub later : List Call
  pub now : List Call
  pub order : calls ≡ later ++ now
  pub there : Contains (after_all total max now).replies reply

-- A reply without an error answers a request that came: each sector that it asked for was read or written, and the flush that it asked for was
-- done, by commands that were submitted behind it, the flush behind the writes.
pub record Answers (total max : ℕ) (calls : List Call) (reply : Reply) : Type 0 where
  pub asked : Asked
  pub come : HasCome total max calls asked
  pub handle_is : reply.handle ≡ asked.handle
  pub read : asked.reads ≡ true → (sector : ℕ) → in_span (span_asked asked) sector ≡ true
      → IsRead total max calls (last_before come) asked reply.payload sector
  pub written : asked.reads ≡ false → (sector : ℕ) → in_span (span_asked asked) sector ≡ true
      → IsWritten total max calls (last_before come) asked sector
  pub flushed : asked.lasts ≡ true → IsFlushed total max calls (last_before come)
  pub in_order : (lasts : asked.lasts ≡ true) (writes : asked.reads ≡ false) (sector : ℕ) (inside : in_span (span_asked asked) sector ≡ true)
      → (written writes sector inside).ticket.0 < (flushed lasts).ticket.0
