-- What a server does of its own, beside what its host does: with its client and the listener, with the desk, and towards its end. The lists
-- have the latest first.
use Rattle.std.specs.Prelude.{ℕ, suc, Bool, true, false, ◌||◌, List, [], ◌∷◌, ◌++◌, Option, Some, None, Result, Ok, Err}
use Rattle.aoe_base.specs.declared.counted.Ticket.{Ticket}
use Rattle.aoe_clients.specs.Clients.{ClientEvent, accepted, closed}
use Rattle.aoe_desk.specs.Desks.{DeskState}
use Rattle.aoe_desk.specs.Runs.{after_all, Call}
use Rattle.aoe_desk.specs.Runs.Call.{GivesUp, Hands, Leaves, Settles}
use Rattle.aoe_initiator.specs.declared.outcome.Done.{Done}
use Rattle.aoe_initiator.specs.declared.outcome.Outcome.{Outcome}
use Rattle.aoe_initiator.specs.declared.outcome.Outcome.TheVariants as outcome
use Rattle.aoe_nbd.specs.declared.export.Export.{Export}
use Rattle.aoe_nbd_serve.specs.Conversations.{calls_of as calls_in, ends_with, events_of, greeted, Act, ConversationState}
use Rattle.aoe_nbd_serve.specs.declared.phase.Ended.{Ended}
use Rattle.aoe_nbd_serve.specs.declared.terms.Asked.{Asked}

-- a client is accepted at a time, or closed at once, for want of memory; one turn of the conversation with it passes at a time, by these acts
-- and with this result, and leads to this; the desk's next operation is handed, its request given up, or an outcome taken; the client has
-- gone; it is asked whether to end; the end is asked for; the last flush is under way; a wait
pub data Deed : Type 0 where
  accepts : ℕ → Deed
  closes : Deed
  talks : ℕ → List Act → Result Bool Ended → ConversationState → Deed
  hands : Ticket → Deed
  gives_up : Deed
  settles : Done → Deed
  leaves : Deed
  asks : Bool → Deed
  ends : Asked → Deed
  flushes : Ticket → Deed
  waits : ℕ → Deed

-- what goes on behind a turn of a conversation
abbrev pub stays_as : Result Bool Ended → ConversationState → Option ConversationState
stays_as (Ok moved) t = Some t
stays_as (Err ended) t = None

-- the conversation with the client that is there
abbrev pub talk_of : Export → List Deed → Option ConversationState
talk_of e [] = None
talk_of e (accepts now ∷ deeds) = Some (greeted e now)
talk_of e (closes ∷ deeds) = None
talk_of e (talks now acts result t ∷ deeds) = stays_as result t
talk_of e (hands ticket ∷ deeds) = talk_of e deeds
talk_of e (gives_up ∷ deeds) = talk_of e deeds
talk_of e (settles done ∷ deeds) = talk_of e deeds
talk_of e (leaves ∷ deeds) = talk_of e deeds
talk_of e (asks answer ∷ deeds) = talk_of e deeds
talk_of e (ends why ∷ deeds) = talk_of e deeds
talk_of e (flushes ticket ∷ deeds) = talk_of e deeds
talk_of e (waits most ∷ deeds) = talk_of e deeds

-- what passed with the clients
abbrev pub told_of : List Deed → List ClientEvent
told_of [] = []
told_of (accepts now ∷ deeds) = accepted ∷ told_of deeds
told_of (closes ∷ deeds) = closed ∷ told_of deeds
told_of (talks now acts result t ∷ deeds) = (ends_with result ++ events_of acts) ++ told_of deeds
told_of (hands ticket ∷ deeds) = told_of deeds
told_of (gives_up ∷ deeds) = told_of deeds
told_of (settles done ∷ deeds) = told_of deeds
told_of (leaves ∷ deeds) = told_of deeds
told_of (asks answer ∷ deeds) = told_of deeds
told_of (ends why ∷ deeds) = told_of deeds
told_of (flushes ticket ∷ deeds) = told_of deeds
told_of (waits most ∷ deeds) = told_of deeds

-- the calls of the desk
abbrev pub calls_of : List Deed → List Call
calls_of [] = []
calls_of (accepts now ∷ deeds) = calls_of deeds
calls_of (closes ∷ deeds) = calls_of deeds
calls_of (talks now acts result t ∷ deeds) = calls_in acts ++ calls_of deeds
calls_of (hands ticket ∷ deeds) = Hands ticket ∷ calls_of deeds
calls_of (gives_up ∷ deeds) = GivesUp ∷ calls_of deeds
calls_of (settles done ∷ deeds) = Settles done ∷ calls_of deeds
calls_of (leaves ∷ deeds) = Leaves ∷ calls_of deeds
calls_of (asks answer ∷ deeds) = calls_of deeds
calls_of (ends why ∷ deeds) = calls_of deeds
calls_of (flushes ticket ∷ deeds) = calls_of deeds
calls_of (waits most ∷ deeds) = calls_of deeds

-- the desk behind these
abbrev pub desk_of : ℕ → ℕ → List Deed → DeskState
desk_of total max deeds = after_all total max (calls_of deeds)

-- the answers to whether to end
abbrev pub asked_of : List Deed → List Bool
asked_of [] = []
asked_of (accepts now ∷ deeds) = asked_of deeds
asked_of (closes ∷ deeds) = asked_of deeds
asked_of (talks now acts result t ∷ deeds) = asked_of deeds
asked_of (hands ticket ∷ deeds) = asked_of deeds
asked_of (gives_up ∷ deeds) = asked_of deeds
asked_of (settles done ∷ deeds) = asked_of deeds
asked_of (leaves ∷ deeds) = asked_of deeds
asked_of (asks answer ∷ deeds) = answer ∷ asked_of deeds
asked_of (ends why ∷ deeds) = asked_of deeds
asked_of (flushes ticket ∷ deeds) = asked_of deeds
asked_of (waits most ∷ deeds) = asked_of deeds

-- how long each wait was to last at most
abbrev pub waits_of : List Deed → List ℕ
waits_of [] = []
waits_of (accepts now ∷ deeds) = waits_of deeds
waits_of (closes ∷ deeds) = waits_of deeds
waits_of (talks now acts result t ∷ deeds) = waits_of deeds
waits_of (hands ticket ∷ deeds) = waits_of deeds
waits_of (gives_up ∷ deeds) = waits_of deeds
waits_of (settles done ∷ deeds) = waits_of deeds
waits_of (leaves ∷ deeds) = waits_of deeds
waits_of (asks answer ∷ deeds) = waits_of deeds
waits_of (ends why ∷ deeds) = waits_of deeds
waits_of (flushes ticket ∷ deeds) = waits_of deeds
waits_of (waits most ∷ deeds) = most ∷ waits_of deeds

-- how many waits there were since a client was there
abbrev pub idle_waits : List Deed → ℕ
idle_waits [] = 0
idle_waits (accepts now ∷ deeds) = 0
idle_waits (closes ∷ deeds) = 0
idle_waits (talks now acts result t ∷ deeds) = 0
idle_waits (hands ticket ∷ deeds) = idle_waits deeds
idle_waits (gives_up ∷ deeds) = idle_waits deeds
idle_waits (settles done ∷ deeds) = idle_waits deeds
idle_waits (leaves ∷ deeds) = idle_waits deeds
idle_waits (asks answer ∷ deeds) = idle_waits deeds
idle_waits (ends why ∷ deeds) = idle_waits deeds
idle_waits (flushes ticket ∷ deeds) = idle_waits deeds
idle_waits (waits most ∷ deeds) = suc (idle_waits deeds)

-- how many clients were accepted, and operations handed
abbrev pub accepted_in : List Deed → ℕ
accepted_in [] = 0
accepted_in (accepts now ∷ deeds) = suc (accepted_in deeds)
accepted_in (closes ∷ deeds) = accepted_in deeds
accepted_in (talks now acts result t ∷ deeds) = accepted_in deeds
accepted_in (hands ticket ∷ deeds) = accepted_in deeds
accepted_in (gives_up ∷ deeds) = accepted_in deeds
accepted_in (settles done ∷ deeds) = accepted_in deeds
accepted_in (leaves ∷ deeds) = accepted_in deeds
accepted_in (asks answer ∷ deeds) = accepted_in deeds
accepted_in (ends why ∷ deeds) = accepted_in deeds
accepted_in (flushes ticket ∷ deeds) = accepted_in deeds
accepted_in (waits most ∷ deeds) = accepted_in deeds

abbrev pub handed : List Deed → ℕ
handed [] = 0
handed (accepts now ∷ deeds) = handed deeds
handed (closes ∷ deeds) = handed deeds
handed (talks now acts result t ∷ deeds) = handed deeds
handed (hands ticket ∷ deeds) = suc (handed deeds)
handed (gives_up ∷ deeds) = handed deeds
handed (settles done ∷ deeds) = handed deeds
handed (leaves ∷ deeds) = handed deeds
handed (asks answer ∷ deeds) = handed deeds
handed (ends why ∷ deeds) = handed deeds
handed (flushes ticket ∷ deeds) = handed deeds
handed (waits most ∷ deeds) = handed deeds

-- the outcomes that were taken: each is given to the desk, which hands back that of the last flush
abbrev pub settled : List Deed → List Done
settled [] = []
settled (accepts now ∷ deeds) = settled deeds
settled (closes ∷ deeds) = settled deeds
settled (talks now acts result t ∷ deeds) = settled deeds
settled (hands ticket ∷ deeds) = settled deeds
settled (gives_up ∷ deeds) = settled deeds
settled (settles done ∷ deeds) = done ∷ settled deeds
settled (leaves ∷ deeds) = settled deeds
settled (asks answer ∷ deeds) = settled deeds
settled (ends why ∷ deeds) = settled deeds
settled (flushes ticket ∷ deeds) = settled deeds
settled (waits most ∷ deeds) = settled deeds

-- why the end was asked for
abbrev pub why_of : List Deed → Option Asked
why_of [] = None
why_of (accepts now ∷ deeds) = why_of deeds
why_of (closes ∷ deeds) = why_of deeds
why_of (talks now acts result t ∷ deeds) = why_of deeds
why_of (hands ticket ∷ deeds) = why_of deeds
why_of (gives_up ∷ deeds) = why_of deeds
why_of (settles done ∷ deeds) = why_of deeds
why_of (leaves ∷ deeds) = why_of deeds
why_of (asks answer ∷ deeds) = why_of deeds
why_of (ends why ∷ deeds) = Some why
why_of (flushes ticket ∷ deeds) = why_of deeds
why_of (waits most ∷ deeds) = why_of deeds

-- the last flush, once it is under way
abbrev pub last_of : List Deed → Option Ticket
last_of [] = None
last_of (accepts now ∷ deeds) = last_of deeds
last_of (closes ∷ deeds) = last_of deeds
last_of (talks now acts result t ∷ deeds) = last_of deeds
last_of (hands ticket ∷ deeds) = last_of deeds
last_of (gives_up ∷ deeds) = last_of deeds
last_of (settles done ∷ deeds) = last_of deeds
last_of (leaves ∷ deeds) = last_of deeds
last_of (asks answer ∷ deeds) = last_of deeds
last_of (ends why ∷ deeds) = last_of deeds
last_of (flushes ticket ∷ deeds) = Some ticket
last_of (waits most ∷ deeds) = last_of deeds

abbrev pub is_written : Outcome → Bool
is_written (outcome.Read bytes) = false
is_written outcome.Written = true
is_written outcome.Flushed = false
is_written (outcome.Told args) = false
is_written (outcome.AtaError status error) = false
is_written (outcome.AoeError error) = false
is_written (outcome.GaveUp first now) = false

-- a write was acknowledged
abbrev pub has_written : List Done → Bool
has_written [] = false
has_written (done ∷ earlier) = is_written done.outcome || has_written earlier
