-- What a transcript in memory says.
use Rattle.aoe_clients.specs.declared.transcript.Passed.{Passed}
use Rattle.aoe_clients.specs.declared.transcript.Passed.TheVariants as passed
use Rattle.aoe_clients.specs.Clients.{ClientEvent, accepted, received, sent, left, closed}

-- what happened to a connection
abbrev pub event_of : Passed → ClientEvent
event_of passed.Accepted = accepted
event_of (passed.Received bytes) = received bytes.items
event_of (passed.Sent bytes) = sent bytes.items
event_of passed.Left = left
event_of passed.Closed = closed
