-- Where a connection stands, and what is told, by how many bytes of a request's data are missing.
use Rattle.std.specs.Prelude.{ℕ, ◌==◌, Option, Some, None, if◌then◌else◌}
use Rattle.aoe_nbd.specs.declared.error.NbdError.{NbdError}
use Rattle.aoe_nbd.specs.declared.error.NbdError.TheVariants.{NoMemory}
use Rattle.aoe_nbd.specs.declared.request.RequestHead.{RequestHead}
use Rattle.aoe_nbd.specs.declared.transmission.Event.{Event}
use Rattle.aoe_nbd.specs.declared.transmission.Event.TheVariants as events
use Rattle.aoe_nbd.specs.declared.transmission.Stage.{Stage}
use Rattle.aoe_nbd.specs.declared.transmission.Stage.TheVariants as stages
use Rattle.aoe_nbd.specs.Requests.{request_of}

-- where none is missing the next request comes
abbrev pub stage_of : RequestHead → Option NbdError → ℕ → Stage
stage_of h refused missing = if missing == 0 then stages.Head else stages.Data h refused missing

-- at the last byte of a request
abbrev pub whole_event : RequestHead → Option NbdError → Event
whole_event h None = events.Came (request_of h)
whole_event h (Some error) = events.Refused error h.handle

-- at a head that has data behind it
abbrev pub first_event : RequestHead → Option NbdError → Event
first_event h None = events.Begins (request_of h)
first_event h (Some error) = events.Skipped

-- at data that has more behind it
abbrev pub piece_event : Option NbdError → Event
piece_event None = events.Data
piece_event (Some error) = events.Skipped

abbrev pub head_event : RequestHead → Option NbdError → ℕ → Event
head_event h refused missing = if missing == 0 then whole_event h refused else first_event h refused

abbrev pub data_event : RequestHead → Option NbdError → ℕ → Event
data_event h refused missing = if missing == 0 then whole_event h refused else piece_event refused

-- where a connection stands once there was no memory for the data of a write
abbrev pub given_up : Stage → Stage
given_up stages.Head = stages.Head
given_up (stages.Data h None missing) = stages.Data h (Some NoMemory) missing
given_up (stages.Data h (Some error) missing) = stages.Data h (Some error) missing
given_up stages.Ended = stages.Ended
