-- What a client says once the handshake is over: requests, each behind the other.
use Rattle.std.specs.Prelude.{ℕ, ◌+◌, ◌<◌, ◌≡◌, ◌≢◌, ◌⊎◌, List, [], ◌∷◌, ◌++◌, length, take, Option, Some, None}
use Rattle.std.specs.List.{flat_map, AllByRecursion}
use Rattle.aoe_nbd.specs.declared.error.NbdError.{NbdError}
use Rattle.aoe_nbd.specs.declared.error.NbdError.TheVariants.{NoMemory}
use Rattle.aoe_nbd.specs.declared.export.Export.{Export}
use Rattle.aoe_nbd.specs.declared.request.RequestHead.{RequestHead}
use Rattle.aoe_nbd.specs.declared.transmission.Event.{Event}
use Rattle.aoe_nbd.specs.declared.transmission.Event.TheVariants as events
use Rattle.aoe_nbd.specs.declared.transmission.Stage.{Stage}
use Rattle.aoe_nbd.specs.declared.transmission.Stage.TheVariants as stages
use Rattle.aoe_nbd.specs.Refusals.{refusal}
use Rattle.aoe_nbd.specs.Requests.{Fits, data_len, head_bytes, request_of}

-- a request with its data
pub record Message : Type 0 where
  pub head : RequestHead
  pub payload : List ℕ

abbrev pub message_bytes : Message → List ℕ
message_bytes m = head_bytes m.head ++ m.payload

pub record IsMessage (m : Message) : Type 0 where
  pub fits : Fits m.head
  pub whole : length m.payload ≡ data_len m.head

-- what came so far: all of its bytes, the requests that came whole, and the data that came of the one that didn't
pub record Past : Type 0 where
  pub stream : List ℕ
  pub messages : List Message
  pub part : List ℕ

-- what came of the request that isn't whole yet
abbrev pub begun : Stage → List ℕ → List ℕ
begun stages.Head part = []
begun (stages.Data h refused missing) part = head_bytes h ++ part
begun stages.Ended part = []

-- the error by which a request is refused, or nothing: what the table says, or that there was no memory for it
abbrev pub IsVerdict : Export → RequestHead → Option NbdError → Type 0
IsVerdict e h verdict = (verdict ≡ refusal e h) ⊎ ((refusal e h ≡ None) × (verdict ≡ Some NoMemory))

abbrev pub IsBegun : Export → Stage → List ℕ → Type 0
IsBegun e stages.Head part = part ≡ []
IsBegun e (stages.Data h refused missing) part = Fits h × (0 < missing) × (length part + missing ≡ data_len h) × IsVerdict e h refused
IsBegun e stages.Ended part = part ≡ []

-- a connection stands where these bytes lead it: they are the requests that came whole, and then the one that didn't
pub record StandsAt (e : Export) (past : Past) (stage : Stage) : Type 0 where
  pub stream : past.stream ≡ flat_map message_bytes past.messages ++ begun stage past.part
  pub each : AllByRecursion IsMessage past.messages
  pub begins : IsBegun e stage past.part

-- nothing came
abbrev pub nothing_past : Past
nothing_past = record { stream = []; messages = []; part = [] }

-- more bytes came, and so much of the data has come now
abbrev pub past_part : Past → List ℕ → List ℕ → Past
past_part past front part = record { stream = past.stream ++ front; messages = past.messages; part = part }

-- a head came
abbrev pub past_head : Past → List ℕ → Past
past_head past front = past_part past front []

-- more data came
abbrev pub past_data : Past → List ℕ → Past
past_data past front = past_part past front (past.part ++ front)

-- a request came whole
abbrev pub past_message : Past → List ℕ → Message → Past
past_message past front m = record { stream = past.stream ++ front; messages = past.messages ++ m ∷ []; part = [] }

-- the verdict on a request, by where the connection stood before the bytes that are taken now
abbrev pub IsVerdictFrom : Export → Stage → RequestHead → Option NbdError → Type 0
IsVerdictFrom e stages.Head h verdict = (h.kind ≢ 2) × (verdict ≡ refusal e h)
IsVerdictFrom e (stages.Data begun refused missing) h verdict = verdict ≡ refused
IsVerdictFrom e stages.Ended h verdict = ⊥

-- the request whose last bytes are taken now: these bytes are its head, or its data behind what came of that
abbrev pub IsWholeFrom : Stage → List ℕ → List ℕ → Message → Type 0
IsWholeFrom stages.Head part front m = (front ≡ head_bytes m.head) × (m.payload ≡ [])
IsWholeFrom (stages.Data h refused missing) part front m = (m.head ≡ h) × (m.payload ≡ part ++ front)
IsWholeFrom stages.Ended part front m = ⊥

-- of what comes next there is too little: less than a head, or no data
abbrev pub IsShortRequest : Stage → List ℕ → Type 0
IsShortRequest stages.Head bytes = length bytes < 28
IsShortRequest (stages.Data h refused missing) bytes = bytes ≡ []
IsShortRequest stages.Ended bytes = ⊥

-- What is told, where these bytes stand at the front and so many of them are taken.
abbrev pub Follows : Export → Past → Stage → List ℕ → ℕ → Event → Stage → Type 0
-- nothing yet
Follows e past old bytes len events.More new = (len ≡ 0) × (new ≡ old) × IsShortRequest old bytes
-- the head of a write that will be carried out
Follows e past old bytes len (events.Begins request) new = (h : RequestHead) × (missing : ℕ) × (request ≡ request_of h)
    × (old ≡ stages.Head) × IsVerdictFrom e old h None × (new ≡ stages.Data h None missing) × StandsAt e (past_head past (take len bytes)) new
-- a piece of its data, and not the last one
Follows e past old bytes len events.Data new = (0 < len) × (h : RequestHead) × (missing : ℕ) × (missing' : ℕ)
    × (old ≡ stages.Data h None missing) × (new ≡ stages.Data h None missing') × StandsAt e (past_data past (take len bytes)) new
-- the head of a write that is refused, or a piece of its data, and not the last one
Follows e past old bytes len events.Skipped new = (0 < len) × (h : RequestHead) × (error : NbdError) × (missing : ℕ) × (part : List ℕ)
    × IsVerdictFrom e old h (Some error) × (new ≡ stages.Data h (Some error) missing) × StandsAt e (past_part past (take len bytes) part) new
-- a request came whole, and is carried out
Follows e past old bytes len (events.Came request) new = (m : Message) × IsWholeFrom old past.part (take len bytes) m × (request ≡ request_of m.head)
    × IsVerdictFrom e old m.head None × StandsAt e (past_message past (take len bytes) m) new
-- a request came whole, and is refused
Follows e past old bytes len (events.Refused error handle) new = (m : Message) × IsWholeFrom old past.part (take len bytes) m × (handle ≡ m.head.handle)
    × IsVerdictFrom e old m.head (Some error) × StandsAt e (past_message past (take len bytes) m) new
-- a DISC (2) came
Follows e past old bytes len events.Disconnected new = (m : Message) × (m.head.kind ≡ 2)
    × (new ≡ stages.Ended) × StandsAt e (past_message past (take len bytes) m) new
-- no request begins so
Follows e past old bytes len events.BadMagic new = (len ≡ 0) × (old ≡ stages.Head) × (new ≡ stages.Ended) × StandsAt e past new
    × ((m : Message) (rest : List ℕ) → IsMessage m → bytes ≢ message_bytes m ++ rest)
-- the end was told before
Follows e past old bytes len events.Ended new = (len ≡ 0) × (old ≡ stages.Ended) × (new ≡ stages.Ended)
