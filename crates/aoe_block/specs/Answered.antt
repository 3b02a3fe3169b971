-- What follows from the steps of a job: what was submitted, and which frame brought an outcome.
use Rattle.std.specs.Prelude.{ℕ, ◌≡◌, List, [], ◌∷◌, ◌++◌, length, true, Some}
use Rattle.aoe_base.specs.declared.counted.Ticket.{Ticket}
use Rattle.aoe_initiator.specs.declared.op.Op.{Op}
use Rattle.aoe_initiator.specs.declared.outcome.Outcome.{Outcome}
use Rattle.aoe_initiator.specs.Host.{Matches}
use Rattle.aoe_initiator.specs.HostLog.{HostCommand}
use Rattle.aoe_io.specs.Link.{came}
use Rattle.aoe_block.specs.Steps.{is_success, log_of, ticket_at, Start, Step}
use Rattle.aoe_block.specs.Steps.Step.{hears}
use Rattle.aoe_block.specs.Turns.{AreTagged, Heard, IsAnswer}

-- a command with its ticket
pub record Submission : Type 0 where
  pub ticket : Ticket
  pub op : Op

-- what a command of the host asks for
abbrev pub as_asked : HostCommand → Submission
as_asked c = record { ticket = c.ticket; op = c.op }

-- these commands, the latest of which stands first, in their order and with the tickets that follow the last one before
abbrev pub submissions : Start → List Op → List Submission
submissions b [] = []
submissions b (o ∷ earlier) = submissions b earlier ++ record { ticket = ticket_at b (length earlier); op = o } ∷ []

-- a job begins with a host and all that it did
pub record IsStart (b : Start) : Type 0 where
  pub matches : Matches b.log b.host
  pub tags : AreTagged b.host.flight.last_tag b.log

-- a frame came in one of the turns that answers the command with this ticket, and says this
pub record IsTold {A : Type 0} (b : Start) (steps : List (Step A)) (ticket : Ticket) (says : Outcome) : Type 0 where
  pub later : List (Step A)
  pub frame : List ℕ
  pub heard : Heard
  pub earlier : List (Step A)
  pub order : steps ≡ later ++ hears (came frame) (Some heard) ∷ earlier
  pub answers : IsAnswer b.host (log_of b earlier) frame heard
  pub ticket_is : heard.ticket ≡ ticket
  pub says_so : heard.outcome ≡ says

-- a frame came in one of the turns that answers this command, and says that it was done
pub record IsDone {A : Type 0} (b : Start) (steps : List (Step A)) (c : HostCommand) : Type 0 where
  pub says : Outcome
  pub told : IsTold b steps c.ticket says
  pub asks : told.answers.command.op ≡ c.op
  pub well : is_success says ≡ true
