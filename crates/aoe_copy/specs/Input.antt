-- The sectors that a source gives up to its end.
use Rattle.std.specs.Prelude.{ℕ, ◌≡◌, ◌≢◌, ◌-◌, ◌%◌, ◌<◌, ◌≤◌, List, length, Option, Result, Ok, Err}
use Rattle.aoe_io.specs.Bytes.{GaveSome}
use Rattle.aoe_io.specs.Input.{IsReadInPart, IsReadUpTo}
use Rattle.aoe_copy.specs.declared.end.CopyRefusal.{CopyRefusal}
use Rattle.aoe_copy.specs.declared.end.CopyRefusal.TheVariants as copy
use Rattle.aoe_tools.specs.declared.end.ToolRefusal.TheVariants as tool
use Rattle.aoe_copy.specs.declared.input.Input.{Input}
use Rattle.aoe_copy.specs.declared.input.Input.TheVariants as input

-- the most bytes that are read before the first is sent
abbrev pub most_input : ℕ
most_input = 16777216

-- why no input came: the source failed; or there was no memory for more of it, and what came so far was whole sectors and not too many
abbrev pub Unread : CopyRefusal → Option (List ℕ) → Option (List ℕ) → Type 0
Unread copy.SourceFault left left' = GaveSome left left'
Unread (copy.Tool tool.NoMemory) left left' = IsReadInPart most_input left left'
Unread (copy.Tool refusal) left left' = ⊥
Unread (copy.Stream offset) left left' = ⊥
Unread copy.SinkFault left left' = ⊥

-- what the source gave, to its end: whole sectors, and not too many; or why not
abbrev pub Inputs : Result (List ℕ) CopyRefusal → Option (List ℕ) → Option (List ℕ) → Type 0
Inputs (Ok bytes) left left' = IsReadUpTo most_input left left' bytes × (length bytes ≤ most_input) × (length bytes % 512 ≡ 0)
Inputs (Err (copy.Stream offset)) left left' =
    (bytes : List ℕ) × IsReadUpTo most_input left left' bytes × (length bytes ≤ most_input) × (length bytes % 512 ≢ 0)
    × (offset ≡ length bytes - length bytes % 512)
Inputs (Err refusal) left left' = Unread refusal left left'

-- what the source gave at first: all of it; or more than is written at a time, after which there may be more; or why no input came
abbrev pub Reads : Result Input CopyRefusal → Option (List ℕ) → Option (List ℕ) → Type 0
Reads (Ok (input.Sectors bytes)) left left' = Inputs (Ok bytes) left left'
Reads (Ok (input.Longer bytes)) left left' = IsReadUpTo most_input left left' bytes × (most_input < length bytes)
Reads (Err refusal) left left' = Inputs (Err refusal) left left'
