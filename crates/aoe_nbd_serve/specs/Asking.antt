-- The request that comes: what is kept of it, what the desk needs to take it, and what is taken.
use Rattle.std.specs.Prelude.{ℕ, ◌≡◌, ◌≢◌, ◌+◌, ◌*◌, ◌/◌, ◌%◌, ◌<◌, ◌≤◌, ◌⊎◌, Bool, true, false, List, [], ◌++◌, length, drop, take, Option, Some, None, is_none, vec_capacity, if◌then◌else◌}
use Rattle.aoe_base.specs.Sizes.{most_copied}
use Rattle.aoe_desk.specs.Desks.{DeskState, HasRoom}
use Rattle.aoe_desk.specs.Runs.{Call}
use Rattle.aoe_nbd.specs.declared.export.Export.{Export}
use Rattle.aoe_nbd.specs.declared.request.Action.{Action}
use Rattle.aoe_nbd.specs.declared.request.Action.TheVariants.{Read, Write, Flush}
use Rattle.aoe_nbd.specs.declared.request.RequestHead.{RequestHead}
use Rattle.aoe_nbd.specs.declared.transmission.Event.{Event}
use Rattle.aoe_nbd.specs.declared.transmission.Event.TheVariants as events
use Rattle.aoe_nbd.specs.declared.transmission.Stage.{Stage}
use Rattle.aoe_nbd.specs.declared.transmission.Stage.TheVariants as stages
use Rattle.aoe_nbd.specs.Refusals.{refusal}
use Rattle.aoe_nbd.specs.Requests.{action_of, head_of}
use Rattle.aoe_nbd.specs.Steps.{given_up}
use Rattle.aoe_nbd.specs.Streams.{Follows, Past, StandsAt}
use Rattle.aoe_nbd_serve.specs.declared.phase.Phase.{Phase}
use Rattle.aoe_nbd_serve.specs.declared.phase.Phase.TheVariants as phases
use Rattle.aoe_nbd_serve.specs.declared.requests.Coming.{Coming}
use Rattle.aoe_nbd_serve.specs.Conversations.{payload_asked, Does, IsHandedIn}

-- how many bytes a request of this length holds at the desk
abbrev pub held_by : Action → ℕ → ℕ
held_by (Read span) len = len
held_by (Write span lasts) len = len
held_by Flush len = 0

-- and the one whose head stands at the front: none where it is refused, or isn't there
abbrev pub held_by_head : Export → Option RequestHead → ℕ
held_by_head e None = 0
held_by_head e (Some h) = if is_none (refusal e h) then held_by (action_of h) h.len else 0

abbrev pub held_next : Export → List ℕ → ℕ
held_next e bytes = held_by_head e (head_of bytes)

-- and the one that comes, whose head came before or stands at the front
abbrev pub room_needed : Export → Option ℕ → List ℕ → ℕ
room_needed e None bytes = held_next e bytes
room_needed e (Some room) bytes = room

-- what is kept of the request that comes, where this came of its data: that of a write which is carried out, in room for all of it
abbrev pub IsKeptAt : Stage → List ℕ → Coming → Type 0
IsKeptAt stages.Head part c = (c.payload.items ≡ []) × (c.room ≡ None)
IsKeptAt (stages.Data h None missing) part c = (c.payload.items ≡ part) × (c.room ≡ Some h.len) × (h.len ≤ vec_capacity c.payload)
IsKeptAt (stages.Data h (Some error) missing) part c = (c.payload.items ≡ []) × (c.room ≢ None)
IsKeptAt stages.Ended part c = Unit {0}

pub record IsKept (e : Export) (stage : Stage) (c : Coming) : Type 0 where
  pub past : Past
  pub stands : StandsAt e past stage
  pub kept : IsKeptAt stage past.part c

abbrev pub IsKeptIn : Export → Phase → Coming → Type 0
IsKeptIn e (phases.Handshake stage) c = (c.payload.items ≡ []) × (c.room ≡ None)
IsKeptIn e (phases.Transmission stage) c = IsKept e stage c
IsKeptIn e phases.Leaving c = Unit {0}
IsKeptIn e phases.BadOption c = Unit {0}
IsKeptIn e phases.BadRequest c = Unit {0}

-- whole sectors of the device, one at least and 16 MiB at most, for which there is room
pub record Fits (at len : ℕ) (d : DeskState) : Type 0 where
  pub some : 0 < len
  pub whole : len % 512 ≡ 0
  pub few : len ≤ 512 * most_copied
  pub within : at + len / 512 ≤ d.total
  pub room : HasRoom len d

-- the desk can take the request, with the data that was kept and these last bytes of it
abbrev pub CanHandIn : Action → Coming → List ℕ → DeskState → Type 0
CanHandIn (Read span) c last d = Fits span.at (512 * span.count) d × (c.payload.items ≡ [])
CanHandIn (Write span lasts) c last d = Fits span.at (length (c.payload.items ++ last)) d × (length (c.payload.items ++ last) ≤ vec_capacity c.payload)
CanHandIn Flush c last d = HasRoom 0 d × (c.payload.items ≡ [])

-- what came can be done, where these bytes of it were taken
abbrev pub CanDo : Event → Coming → List ℕ → DeskState → Type 0
CanDo events.More c bytes d = Unit {0}
CanDo (events.Begins request) c bytes d = c.payload.items ≡ []
CanDo events.Data c bytes d = length (c.payload.items ++ bytes) ≤ vec_capacity c.payload
CanDo events.Skipped c bytes d = Unit {0}
CanDo (events.Came request) c bytes d = CanHandIn request.action c bytes d
CanDo (events.Refused error handle) c bytes d = HasRoom 0 d
CanDo events.Disconnected c bytes d = Unit {0}
CanDo events.BadMagic c bytes d = Unit {0}
CanDo events.Ended c bytes d = Unit {0}

-- nothing was taken, and more is needed
abbrev pub is_more : Event → Bool
is_more events.More = true
is_more (events.Begins request) = false
is_more events.Data = false
is_more events.Skipped = false
is_more (events.Came request) = false
is_more (events.Refused error handle) = false
is_more events.Disconnected = false
is_more events.BadMagic = false
is_more events.Ended = false

-- the room that is needed for the rest of the request that comes, if it isn't whole
abbrev pub room_after : Event → ℕ → Option ℕ
room_after events.More room = None
room_after (events.Begins request) room = Some room
room_after events.Data room = Some room
room_after events.Skipped room = Some room
room_after (events.Came request) room = None
room_after (events.Refused error handle) room = None
room_after events.Disconnected room = None
room_after events.BadMagic room = None
room_after events.Ended room = None

-- there is memory for the data of a write, or it is given up
abbrev pub IsBegunAt : ℕ → Stage → Stage → Coming → Type 0
IsBegunAt room stage stage' c = ((stage' ≡ stage) × (room ≤ vec_capacity c.payload)) ⊎ (stage' ≡ given_up stage)

abbrev pub IsBegunBy : Event → ℕ → Stage → Stage → Coming → Coming → Type 0
IsBegunBy events.More room stage stage' c c' = stage' ≡ stage
IsBegunBy (events.Begins request) room stage stage' c c' = IsBegunAt room stage stage' c'
IsBegunBy events.Data room stage stage' c c' = (stage' ≡ stage) × (vec_capacity c.payload ≤ vec_capacity c'.payload)
IsBegunBy events.Skipped room stage stage' c c' = stage' ≡ stage
IsBegunBy (events.Came request) room stage stage' c c' = stage' ≡ stage
IsBegunBy (events.Refused error handle) room stage stage' c c' = stage' ≡ stage
IsBegunBy events.Disconnected room stage stage' c c' = stage' ≡ stage
IsBegunBy events.BadMagic room stage stage' c c' = stage' ≡ stage
IsBegunBy events.Ended room stage stage' c c' = stage' ≡ stage

-- what came was done, where these bytes of it were taken
pub record Did (event : Event) (bytes : List ℕ) (room : ℕ) (stage stage' : Stage) (c c' : Coming) (d d' : DeskState) : Type 0 where
  pub call : Option Call
  pub begun : IsBegunBy event room stage stage' c c'
  pub room_is : c'.room ≡ room_after event room
  pub payload_is : c'.payload.items ≡ payload_asked event c.payload.items bytes
  pub handed : IsHandedIn d.max event (c.payload.items ++ bytes) call
  pub desk : Does call d d'

-- where a connection stands behind what was taken; a write for which there is no memory is given up
abbrev pub IsStageOf : Event → Stage → Stage → Type 0
IsStageOf events.More taken stage = stage ≡ taken
IsStageOf (events.Begins request) taken stage = (stage ≡ taken) ⊎ (stage ≡ given_up taken)
IsStageOf events.Data taken stage = stage ≡ taken
IsStageOf events.Skipped taken stage = stage ≡ taken
IsStageOf (events.Came request) taken stage = stage ≡ taken
IsStageOf (events.Refused error handle) taken stage = stage ≡ taken
IsStageOf events.Disconnected taken stage = stage ≡ taken
IsStageOf events.BadMagic taken stage = stage ≡ taken
IsStageOf events.Ended taken stage = stage ≡ taken

-- What is taken of the bytes that came says this: so many of them, and what the desk does
pub record Takes (e : Export) (event : Event) (stage stage' : Stage) (unread unread' payload payload' : List ℕ) (d d' : DeskState) : Type 0 where
  pub len : ℕ
  pub call : Option Call
  pub taken : Stage
  pub follows : (past : Past) → StandsAt e past stage → Follows e past stage unread len event taken
  pub stage_is : IsStageOf event taken stage'
  pub unread_is : unread' ≡ drop len unread
  pub payload_is : payload' ≡ payload_asked event payload (take len unread)
  pub handed : IsHandedIn d.max event (payload ++ take len unread) call
  pub desk : Does call d d'
