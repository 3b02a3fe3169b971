-- What follows from the steps of a copy out of a device: what was asked for, and where each byte is from that the sink took.
use Rattle.std.specs.Prelude.{ℕ, zero, suc, ◌≡◌, ◌*◌, List, [], ◌∷◌, ◌++◌, length}
use Rattle.aoe_block.specs.Answered.{IsTold, Submission}
use Rattle.aoe_block.specs.Steps.{owns, ticket_at, Start}
use Rattle.aoe_initiator.specs.declared.outcome.Outcome.TheVariants as outcome
use Rattle.aoe_copy.specs.declared.plan.Plan.{Plan}
use Rattle.aoe_copy.specs.Plan.{reach, span_at}
use Rattle.aoe_copy.specs.Steps.{given, read_at, written, ReadStep}

-- the first n commands of a copy: reads of sectors, those of each after those of the one before it, with one ticket after the other
abbrev pub reads : Start → Plan → ℕ → List Submission
reads b p zero = []
reads b p (suc n) = reads b p n ++ record { ticket = ticket_at b n; op = read_at p n } ∷ []

-- a frame came in one of the turns that is a response to the command after k others, a read of its sectors, and has these bytes for them
pub record IsResponse (b : Start) (p : Plan) (steps : List ReadStep) (k : ℕ) (bytes : List ℕ) : Type 0 where
  pub told : IsTold b steps (ticket_at b k) (outcome.Read bytes)
  pub asks : told.answers.command.op ≡ read_at p k
  pub whole : length bytes ≡ 512 * (span_at p k).count

-- such are these, the latest command's first, down to the first command's
abbrev pub AreResponses : Start → Plan → List ReadStep → List (List ℕ) → Type 0
AreResponses b p steps [] = Unit {0}
AreResponses b p steps (bytes ∷ earlier) = AreResponses b p steps earlier × IsResponse b p steps (length earlier) bytes

-- what the sink took is a front of the sectors: the bytes of the responses to the first commands, in their order
pub record IsFront (b : Start) (p : Plan) (steps : List ReadStep) : Type 0 where
  pub long : length (written steps) ≡ 512 * reach p (given steps)
  pub each : AreResponses b p steps (owns steps)
