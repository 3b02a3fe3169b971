-- A conversation with a client, as contracts see it, and what happens in it.
use Rattle.std.specs.Prelude.{ℕ, ◌≡◌, ◌+◌, ◌-◌, ◌^◌, ◌<◌, ◌≤◌, ◌==◌, ◌||◌, ◌&&◌, ◌≢◌, min, Bool, true, false, nat_le, List, [], ◌∷◌, ◌++◌, length, take, drop, replicate, slice_get, ◌*◌, Option, Some, None, Result, Ok, Err, if◌then◌else◌}
use Rattle.aoe_clients.specs.declared.clients.Moved.{Moved}
use Rattle.aoe_clients.specs.declared.clients.Moved.TheVariants as moved
use Rattle.aoe_clients.specs.Clients.{ClientEvent, received, sent, left, closed}
use Rattle.aoe_desk.specs.declared.reply.Reply.{Reply}
use Rattle.aoe_desk.specs.declared.request.OpenRequest.{OpenRequest}
use Rattle.aoe_desk.specs.Desks.{DeskState, IsNew}
use Rattle.aoe_desk.specs.Runs.{after, Call, CanCall}
use Rattle.aoe_desk.specs.Runs.Call.{Takes, Refuses, Hands, GivesUp as GivesUpNext, Settles, Writes, Leaves}
use Rattle.aoe_io.specs.Link.{Added}
use Rattle.aoe_nbd.specs.declared.error.NbdError.TheVariants.{NoMemory}
use Rattle.aoe_nbd.specs.declared.export.Export.{Export}
use Rattle.aoe_nbd.specs.declared.handshake.HandshakeEvent.{HandshakeEvent}
use Rattle.aoe_nbd.specs.declared.handshake.HandshakeEvent.TheVariants as heard
use Rattle.aoe_nbd.specs.declared.handshake.HandshakeStage.{HandshakeStage}
use Rattle.aoe_nbd.specs.declared.handshake.HandshakeStage.TheVariants.{Flags}
use Rattle.aoe_nbd.specs.declared.request.Action.{Action}
use Rattle.aoe_nbd.specs.declared.request.Action.TheVariants.{Read, Write, Flush}
use Rattle.aoe_nbd.specs.declared.request.Request.{Request}
use Rattle.aoe_nbd.specs.declared.transmission.Event.{Event}
use Rattle.aoe_nbd.specs.declared.transmission.Event.TheVariants as events
use Rattle.aoe_nbd.specs.declared.transmission.Stage.{Stage}
use Rattle.aoe_nbd.specs.declared.transmission.Stage.TheVariants as stages
use Rattle.aoe_nbd.specs.Errors.{error_number}
use Rattle.aoe_nbd.specs.Handshakes.{LeadsTo, Proceeds, Talk}
use Rattle.aoe_nbd.specs.Options.{greeting}
use Rattle.aoe_nbd.specs.Replies.{reply_bytes}
use Rattle.aoe_nbd.specs.Steps.{given_up}
use Rattle.aoe_nbd.specs.Streams.{Follows, Past, StandsAt}
use Rattle.aoe_nbd_serve.specs.declared.phase.Ended.{Ended}
use Rattle.aoe_nbd_serve.specs.declared.phase.Ended.TheVariants.{Done, Closed, BadRequest as BadRequestEnd, BadOption as BadOptionEnd, Late}
use Rattle.aoe_nbd_serve.specs.declared.phase.Phase.{Phase}
use Rattle.aoe_nbd_serve.specs.declared.phase.Phase.TheVariants.{Handshake, Transmission, Leaving, BadOption, BadRequest}

-- a conversation: what is served to the client; what comes next of it; the bytes that came of it and weren't taken yet; those of the
-- handshake that weren't sent yet; the data that came of the write that comes; how many bytes of the desk's first reply were sent; whether
-- its transmission has begun; and when the client has to be through with its handshake, or with what is left for it
pub record ConversationState : Type 0 where
  pub export : Export
  pub phase : Phase
  pub unread : List ℕ
  pub unsent : List ℕ
  pub payload : List ℕ
  pub replied : ℕ
  pub is_through : Bool
  pub limit : ℕ

-- 10 seconds later, in milliseconds
abbrev pub later : ℕ → ℕ
later now = min (now + 10000) (2 ^ 64 - 1)

-- a client came, and is to be greeted
abbrev pub greeted : Export → ℕ → ConversationState
greeted e now = record { export = e; phase = Handshake Flags; unread = []; unsent = greeting; payload = []; replied = 0; is_through = false; limit = later now }

-- nothing more is read of the client
abbrev pub phase_ended : Phase → Phase
phase_ended (Handshake stage) = Leaving
phase_ended (Transmission stage) = Leaving
phase_ended Leaving = Leaving
phase_ended BadOption = BadOption
phase_ended BadRequest = BadRequest

-- what the client said is still read
abbrev pub is_reading : Phase → Bool
is_reading (Handshake stage) = true
is_reading (Transmission stage) = true
is_reading Leaving = false
is_reading BadOption = false
is_reading BadRequest = false

-- the limit stands in the handshake, and once each operation has its outcome of a client of which nothing more is read
abbrev pub is_timed : Phase → DeskState → Bool
is_timed (Handshake stage) d = true
is_timed (Transmission stage) d = false
is_timed Leaving d = length d.open_requests == 0
is_timed BadOption d = true
is_timed BadRequest d = true

-- until then it moves on
abbrev pub timed : ℕ → DeskState → ConversationState → ConversationState
timed now d t = if is_timed t.phase d then t else record t { limit = later now }

-- when the limit is, where it may stand
abbrev pub limit_in : Phase → ℕ → Option ℕ
limit_in (Handshake stage) limit = Some limit
limit_in (Transmission stage) limit = None
limit_in Leaving limit = Some limit
limit_in BadOption limit = None
limit_in BadRequest limit = None

-- each request of the client is answered to the last byte
abbrev pub is_answered : DeskState → Bool
is_answered d = (length d.open_requests == d.gone) && (length d.replies == 0)

-- how a conversation ends now with a client that hasn't left, if it does
abbrev pub end_in : Phase → Bool → Bool → Option Ended
end_in (Handshake stage) is_over is_late = if is_late then Some BadOptionEnd else None
end_in (Transmission stage) is_over is_late = None
end_in Leaving is_over is_late = if is_over then Some Done else (if is_late then Some Late else None)
end_in BadOption is_over is_late = Some BadOptionEnd
end_in BadRequest is_over is_late = Some BadRequestEnd

abbrev pub end_of : ℕ → DeskState → ConversationState → Option Ended
end_of now d t = end_in t.phase ((length t.unsent == 0) && is_answered d) (nat_le t.limit now)

-- the end of a turn, where there was one
abbrev pub end_told : Result Bool Ended → Option Ended
end_told (Ok moved) = None
end_told (Err ended) = Some ended

-- what passes with the client at the end of a turn: nothing, or it has left, or is closed
abbrev pub ends_with : Result Bool Ended → List ClientEvent
ends_with (Ok moved) = []
ends_with (Err Done) = closed ∷ []
ends_with (Err Closed) = left ∷ []
ends_with (Err BadRequestEnd) = closed ∷ []
ends_with (Err BadOptionEnd) = closed ∷ []
ends_with (Err Late) = closed ∷ []

-- What happens in a conversation: bytes of the client are received; bytes of what is said in the handshake are sent, or of the desk's first
-- reply, or its last byte was sent; so many bytes are taken, which say this of the handshake, or this of requests, and so a call of the
-- desk is made; a write is given up, for which there is no memory.
pub data Act : Type 0 where
  Receives : List ℕ → Act
  Answers : List ℕ → Act
  Replies : List ℕ → Act
  Finishes : Act
  Hears : ℕ → HandshakeEvent → Act
  Asks : ℕ → Event → Option Call → Act
  GivesUp : Act

-- what passes with the client, the latest first
abbrev pub events_of : List Act → List ClientEvent
events_of [] = []
events_of (Receives bytes ∷ acts) = received bytes ∷ events_of acts
events_of (Answers bytes ∷ acts) = sent bytes ∷ events_of acts
events_of (Replies bytes ∷ acts) = sent bytes ∷ events_of acts
events_of (Finishes ∷ acts) = events_of acts
events_of (Hears len event ∷ acts) = events_of acts
events_of (Asks len event call ∷ acts) = events_of acts
events_of (GivesUp ∷ acts) = events_of acts

-- the calls of the desk, the latest first
abbrev pub with_call : Option Call → List Call → List Call
with_call None calls = calls
with_call (Some call) calls = call ∷ calls

abbrev pub calls_of : List Act → List Call
calls_of [] = []
calls_of (Receives bytes ∷ acts) = calls_of acts
calls_of (Answers bytes ∷ acts) = calls_of acts
calls_of (Replies bytes ∷ acts) = calls_of acts
calls_of (Finishes ∷ acts) = Writes ∷ calls_of acts
calls_of (Hears len event ∷ acts) = calls_of acts
calls_of (Asks len event call ∷ acts) = with_call call (calls_of acts)
calls_of (GivesUp ∷ acts) = calls_of acts

-- a desk after calls, the latest of which stands first
abbrev pub called : List Call → DeskState → DeskState
called [] d = d
called (call ∷ earlier) d = after call (called earlier d)

-- each of these calls could be made
abbrev pub CanCallAll : List Call → DeskState → Type 0
CanCallAll [] d = Unit {0}
CanCallAll (call ∷ earlier) d = CanCallAll earlier d × CanCall call (called earlier d)

-- the bytes of a reply of the desk
abbrev pub bytes_of : Reply → List ℕ
bytes_of r = reply_bytes (record { error = error_number r.error; handle = r.handle; payload = r.payload })

-- what comes next behind an option
abbrev pub phase_behind : HandshakeEvent → Phase → Phase
phase_behind heard.More phase = phase
phase_behind heard.Flags phase = phase
phase_behind heard.Answered phase = phase
phase_behind heard.Begins phase = Transmission stages.Head
phase_behind heard.Leaves phase = Leaving
phase_behind heard.Unknown phase = BadOption
phase_behind heard.Broken phase = BadOption
phase_behind heard.Ended phase = BadOption

abbrev pub begins : HandshakeEvent → Bool
begins heard.More = false
begins heard.Flags = false
begins heard.Answered = false
begins heard.Begins = true
begins heard.Leaves = false
begins heard.Unknown = false
begins heard.Broken = false
begins heard.Ended = false

-- what comes next behind a request, or a piece of one
abbrev pub phase_past : Event → Phase → Phase
phase_past events.More phase = phase
phase_past (events.Begins request) phase = phase
phase_past events.Data phase = phase
phase_past events.Skipped phase = phase
phase_past (events.Came request) phase = phase
phase_past (events.Refused error handle) phase = phase
phase_past events.Disconnected phase = Leaving
phase_past events.BadMagic phase = BadRequest
phase_past events.Ended phase = BadRequest

-- the data of a write: these bytes are the next of it, or it goes with its request
abbrev pub payload_asked : Event → List ℕ → List ℕ → List ℕ
payload_asked events.More payload front = payload
payload_asked (events.Begins request) payload front = []
payload_asked events.Data payload front = payload ++ front
payload_asked events.Skipped payload front = payload
payload_asked (events.Came request) payload front = []
payload_asked (events.Refused error handle) payload front = payload
payload_asked events.Disconnected payload front = payload
payload_asked events.BadMagic payload front = payload
payload_asked events.Ended payload front = payload

-- how a request with its data stands at the desk
abbrev pub IsAskedAs : ℕ → ℕ → Action → List ℕ → OpenRequest → Type 0
IsAskedAs max handle (Read span) bytes r = IsNew handle true false span.at max (replicate (512 * span.count) 0) r
IsAskedAs max handle (Write span lasts) bytes r = IsNew handle false lasts span.at max bytes r
IsAskedAs max handle Flush bytes r = IsNew handle false true 0 max [] r

-- the call that takes a request with its data, or says that there is no memory for it
abbrev pub IsCallOf : ℕ → Request → List ℕ → Call → Type 0
IsCallOf max request bytes (Takes r) = IsAskedAs max request.handle request.action bytes r
IsCallOf max request bytes (Refuses handle error) = (handle ≡ request.handle) × (error ≡ NoMemory)
IsCallOf max request bytes (Hands ticket) = ⊥
IsCallOf max request bytes GivesUpNext = ⊥
IsCallOf max request bytes (Settles done) = ⊥
IsCallOf max request bytes Writes = ⊥
IsCallOf max request bytes Leaves = ⊥

-- the call for what came, if there is one; these bytes are the data of a write
abbrev pub IsHandedIn : ℕ → Event → List ℕ → Option Call → Type 0
IsHandedIn max (events.Came request) bytes None = ⊥
IsHandedIn max (events.Came request) bytes (Some call) = IsCallOf max request bytes call
IsHandedIn max (events.Refused error handle) bytes call = call ≡ Some (Refuses handle error)
IsHandedIn max events.More bytes call = call ≡ None
IsHandedIn max (events.Begins request) bytes call = call ≡ None
IsHandedIn max events.Data bytes call = call ≡ None
IsHandedIn max events.Skipped bytes call = call ≡ None
IsHandedIn max events.Disconnected bytes call = call ≡ None
IsHandedIn max events.BadMagic bytes call = call ≡ None
IsHandedIn max events.Ended bytes call = call ≡ None

-- the desk does this, which it may
abbrev pub Does : Option Call → DeskState → DeskState → Type 0
Does None d d' = d' ≡ d
Does (Some call) d d' = CanCall call d × (d' ≡ after call d)

-- bytes of what is said in the handshake are sent: the next of them
pub record SendsAnswer (bytes : List ℕ) (t : ConversationState) (d : DeskState) (t' : ConversationState) (d' : DeskState) : Type 0 where
  pub some : 0 < length bytes
  pub next_bytes : t.unsent ≡ bytes ++ t'.unsent
  pub same : t' ≡ record t { unsent = t'.unsent }
  pub desk : d' ≡ d

-- bytes of the first reply are sent, once all of the handshake was: the next of them
pub record SendsReply (bytes : List ℕ) (t : ConversationState) (d : DeskState) (t' : ConversationState) (d' : DeskState) : Type 0 where
  pub reply : Reply
  pub rest : List ℕ
  pub first : slice_get d.replies 0 ≡ Some reply
  pub some : 0 < length bytes
  pub behind : t.unsent ≡ []
  pub next_bytes : drop t.replied (bytes_of reply) ≡ bytes ++ rest
  pub same : t' ≡ record t { replied = t.replied + length bytes }
  pub desk : d' ≡ d

-- the last byte of the first reply was sent
pub record EndsReply (t : ConversationState) (d : DeskState) (t' : ConversationState) (d' : DeskState) : Type 0 where
  pub reply : Reply
  pub first : slice_get d.replies 0 ≡ Some reply
  pub whole : length (bytes_of reply) ≤ t.replied
  pub same : t' ≡ record t { replied = 0 }
  pub desk : d' ≡ after Writes d

-- so many bytes are taken in the handshake, once all answers before were sent, and this is said to them
pub record HearsOption (len : ℕ) (event : HandshakeEvent) (t : ConversationState) (d : DeskState) (t' : ConversationState) (d' : DeskState) : Type 0 where
  pub stage : HandshakeStage
  pub stage' : HandshakeStage
  pub phase : t.phase ≡ Handshake stage
  pub answered : t.unsent ≡ []
  pub proceeds : (talk : Talk) → LeadsTo t.export talk stage → Proceeds t.export talk stage t.unread len event t'.unsent stage'
  pub same : t' ≡ record t { phase = phase_behind event (Handshake stage'); unread = drop len t.unread; unsent = t'.unsent; is_through = t.is_through || begins event }
  pub desk : d' ≡ d

-- so many bytes are taken behind it, and the desk does this
pub record HearsRequest (len : ℕ) (event : Event) (call : Option Call) (t : ConversationState) (d : DeskState) (t' : ConversationState) (d' : DeskState) : Type 0 where
  pub stage : Stage
  pub stage' : Stage
  pub phase : t.phase ≡ Transmission stage
  pub follows : (past : Past) → StandsAt t.export past stage → Follows t.export past stage t.unread len event stage'
  pub same : t' ≡ record t { phase = phase_past event (Transmission stage'); unread = drop len t.unread; payload = payload_asked event t.payload (take len t.unread) }
  pub handed : IsHandedIn d.max event (t.payload ++ take len t.unread) call
  pub desk : Does call d d'

abbrev pub MayAct : Act → ConversationState → DeskState → ConversationState → DeskState → Type 0
MayAct (Receives bytes) t d t' d' = (is_reading t.phase ≡ true) × (0 < length bytes) × (t' ≡ record t { unread = t.unread ++ bytes }) × (d' ≡ d)
MayAct (Answers bytes) t d t' d' = SendsAnswer bytes t d t' d'
MayAct (Replies bytes) t d t' d' = SendsReply bytes t d t' d'
MayAct Finishes t d t' d' = EndsReply t d t' d'
MayAct (Hears len event) t d t' d' = HearsOption len event t d t' d'
MayAct (Asks len event call) t d t' d' = HearsRequest len event call t d t' d'
MayAct GivesUp t d t' d' = (stage : Stage) × (t.phase ≡ Transmission stage) × (t' ≡ record t { phase = Transmission (given_up stage) }) × (d' ≡ d)

-- one behind the other, the latest first, they lead from a conversation and a desk to others
abbrev pub AreActs : List Act → ConversationState → DeskState → ConversationState → DeskState → Type 0
AreActs [] t d t' d' = (t' ≡ t) × (d' ≡ d)
AreActs (act ∷ acts) t d t' d' = (u : ConversationState) × (e : DeskState) × AreActs acts t d u e × MayAct act u e t' d'

-- some of them, and none with the client
pub record LeadsOn (t : ConversationState) (d : DeskState) (t' : ConversationState) (d' : DeskState) : Type 0 where
  pub acts : List Act
  pub leads : AreActs acts t d t' d'
  pub silent : events_of acts ≡ []

-- what the client tells of its leaving
abbrev pub leaves_with : Moved → List ClientEvent
leaves_with (moved.Bytes n) = []
leaves_with moved.Nothing = []
leaves_with moved.Left = left ∷ []

-- some of them, which the client tells, up to its leaving
pub record Leads (told told' : Option (List ClientEvent)) (moved : Moved) (t : ConversationState) (d : DeskState) (t' : ConversationState) (d' : DeskState) : Type 0 where
  pub acts : List Act
  pub leads : AreActs acts t d t' d'
  pub tells : Added told told' (leaves_with moved ++ events_of acts)

pub record Turns (told told' : Option (List ClientEvent)) (result : Result Bool Ended) (t : ConversationState) (d : DeskState) (t' : ConversationState) (d' : DeskState) : Type 0 where
  pub acts : List Act
  pub leads : AreActs acts t d t' d'
  pub tells : Added told told' (ends_with result ++ events_of acts)

-- A turn at a time: what happens in it, the latest first. The client tells that, and how the turn ended, which it does by leaving or as the
-- limit and the answers say.
pub record Converses (now : ℕ) (told told' : Option (List ClientEvent)) (t : ConversationState) (d : DeskState) (result : Result Bool Ended) (t' : ConversationState) (d' : DeskState) : Type 0 where
  pub acts : List Act
  pub leads : AreActs acts (timed now d t) d t' d'
  pub tells : Added told told' (ends_with result ++ events_of acts)
  pub ended : result ≢ Err Closed → end_told result ≡ end_of now d' t'
