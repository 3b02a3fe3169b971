-- The steps of a copy out of a device, latest first: a step of its own is that the sink takes the sectors of the next command.
use Rattle.std.specs.Prelude.{ℕ, suc, ◌≡◌, ◌+◌, ◌<◌, ◌≤◌, ◌⊎◌, List, ◌∷◌, ◌++◌, length, Some, Contains, All}
use Rattle.aoe_block.specs.Steps.{asked, outcomes, owns, IsWell, Patience, Start, Step}
use Rattle.aoe_block.specs.Steps.Step.{hears, own, sends, submits, ticks}
use Rattle.aoe_initiator.specs.declared.op.Op.{Op}
use Rattle.aoe_initiator.specs.declared.op.Op.TheVariants as op
use Rattle.aoe_initiator.specs.declared.outcome.Done.{Done}
use Rattle.aoe_copy.specs.Ending.{failure}
use Rattle.aoe_copy.specs.declared.plan.Plan.{Plan}
use Rattle.aoe_copy.specs.Plan.{reach, span_at}
use Rattle.aoe_copy.specs.Window.{in_order, most_open, read_done}
use Rattle.aoe_tools.specs.declared.end.ToolRefusal.{ToolRefusal}

abbrev pub ReadStep : Type 0
ReadStep = Step (List ℕ)

-- of how many commands the sink took the sectors
abbrev pub given : List ReadStep → ℕ
given steps = length (owns steps)

-- what the sink took, in this order
abbrev pub written : List ReadStep → List ℕ
written steps = in_order (owns steps)

-- the command after n others reads the sectors that follow theirs (ATA, READ SECTORS EXT)
abbrev pub read_at : Plan → ℕ → Op
read_at p n = op.Read (span_at p n)

-- one more command may be submitted: sectors are left, and fewer than a window of those before it are under way or wait for the sink
pub record MayAsk (p : Plan) (steps : List ReadStep) : Type 0 where
  pub left : reach p (asked steps) < p.count
  pub few : asked steps < given steps + most_open

-- as many as may be were submitted
abbrev pub IsFilled : Plan → List ReadStep → Type 0
IsFilled p steps = (reach p (asked steps) ≡ p.count) ⊎ (given steps + most_open ≤ asked steps)

-- the next command for the sink was answered with these sectors
abbrev pub IsNextRead : Start → List ReadStep → List ℕ → Type 0
IsNextRead b steps bytes = Contains (outcomes steps) (read_done (suc (b.host.last_ticket + given steps)) bytes)

-- the sink has the sectors of each command that was answered, and all before it
abbrev pub IsGivenOut : Start → List ReadStep → Type 0
IsGivenOut b steps = (bytes : List ℕ) → IsNextRead b steps bytes → ⊥

-- all sectors were asked for, and the sink took them
pub record IsOver (p : Plan) (steps : List ReadStep) : Type 0 where
  pub asked_all : reach p (asked steps) ≡ p.count
  pub given_all : given steps ≡ asked steps

-- The law of a copy out of a device: a command reads the sectors that follow those of the commands before it; the sink takes sectors in the
-- order of the commands, as they came; and before a turn of the link as much as may be was submitted and given, and there is more to do.
abbrev pub ReadLaw : Start → Plan → List ReadStep → ReadStep → Type 0
ReadLaw b p steps (ticks answer gave_up) = Unit {0}
ReadLaw b p steps (submits o) = (o ≡ read_at p (asked steps)) × MayAsk p steps
ReadLaw b p steps (own bytes) = IsNextRead b steps bytes
ReadLaw b p steps (sends o) = Unit {0}
ReadLaw b p steps (hears turn heard) = IsFilled p steps × IsGivenOut b steps × (IsOver p steps → ⊥)

-- so many consecutive quiet turns, and a window of frames in one
abbrev pub patience : ℕ → Patience
patience turns = record { turns = turns; most = most_open }

-- the first outcome that isn't a success is this refusal
pub record Fails (turns : ℕ) (outs : List Done) (refusal : ToolRefusal) : Type 0 where
  pub later : List Done
  pub first : Done
  pub earlier : List Done
  pub order : outs ≡ later ++ first ∷ earlier
  pub well : All IsWell earlier
  pub refuses : failure turns first.outcome ≡ Some refusal
