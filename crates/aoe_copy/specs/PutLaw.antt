-- What follows from the steps of a copy into a device: what was submitted, and what was acknowledged.
use Rattle.std.specs.Prelude.{ℕ, ◌≡◌, List, [], ◌∷◌, ◌++◌, length}
use Rattle.aoe_block.specs.Answered.{submissions, IsTold, Submission}
use Rattle.aoe_block.specs.Steps.{ticket_at, Start}
use Rattle.aoe_block.specs.Steps.Step.{submits}
use Rattle.aoe_initiator.specs.declared.op.Op.{Op}
use Rattle.aoe_initiator.specs.declared.op.Op.TheVariants as op
use Rattle.aoe_initiator.specs.declared.outcome.Outcome.TheVariants as outcome
use Rattle.aoe_copy.specs.declared.plan.Plan.{Plan}
use Rattle.aoe_copy.specs.declared.putting.Stage.{Stage}
use Rattle.aoe_copy.specs.declared.putting.Stage.TheVariants as stage
use Rattle.aoe_copy.specs.PutSteps.{pieces, stage_of, write_after, AreFull, IsPart, PutStep}

-- the writes of these bytes, the latest of which stand first: those of each follow on those of the one before it
abbrev pub write_ops : Plan → List (List ℕ) → List Op
write_ops p [] = []
write_ops p (bytes ∷ earlier) = write_after p earlier bytes ∷ write_ops p earlier

-- a flush, where it was submitted
abbrev pub flush_ops : Stage → List Op
flush_ops stage.Reading = []
flush_ops stage.Ended = []
flush_ops stage.Broken = []
flush_ops stage.Beyond = []
flush_ops stage.Flushing = op.Flush ∷ []

-- the commands of a copy: its writes, and the flush after them, each with the next ticket
abbrev pub writes : Start → Plan → List PutStep → List Submission
writes b p steps = submissions b (flush_ops (stage_of steps) ++ write_ops p (pieces steps))

-- the input is cut so, the latest part of which stands first: each part is whole sectors, as many as a command may have, but for the last
abbrev pub AreParts : Plan → List (List ℕ) → Type 0
AreParts p [] = Unit {0}
AreParts p (bytes ∷ earlier) = AreFull p earlier × IsPart p earlier bytes

-- each of so many writes was acknowledged, by a response to the command with its ticket
abbrev pub AreAcknowledged : Start → List PutStep → List (List ℕ) → Type 0
AreAcknowledged b steps [] = Unit {0}
AreAcknowledged b steps (bytes ∷ earlier) = AreAcknowledged b steps earlier × IsTold b steps (ticket_at b (length earlier)) outcome.Written

-- All is written and flushed: each write was acknowledged before the flush was submitted, and then the flush was.
pub record IsWritten (b : Start) (steps : List PutStep) : Type 0 where
  pub later : List PutStep
  pub earlier : List PutStep
  pub order : steps ≡ later ++ submits op.Flush ∷ earlier
  pub all : pieces earlier ≡ pieces steps
  pub each : AreAcknowledged b earlier (pieces steps)
  pub flushed : IsTold b steps (ticket_at b (length (pieces steps))) outcome.Flushed
