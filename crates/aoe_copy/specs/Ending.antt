-- The exit status and the text of each way that a copy ends without having copied, and the outcomes that end it.
use Rattle.std.specs.Prelude.{ℕ, List, ◌++◌, codes, Option, Some, None}
use Rattle.std.specs.Fmt.{decimal}
use Rattle.aoe_initiator.specs.declared.outcome.Outcome.{Outcome}
use Rattle.aoe_initiator.specs.declared.outcome.Outcome.TheVariants as outcome
use Rattle.aoe_tools.specs.Ending.{code_of, text_of}
use Rattle.aoe_tools.specs.declared.end.Refusal.TheVariants as refusal
use Rattle.aoe_tools.specs.declared.end.ToolRefusal.{ToolRefusal}
use Rattle.aoe_tools.specs.declared.end.ToolRefusal.TheVariants as tool
use Rattle.aoe_copy.specs.declared.end.CopyRefusal.{CopyRefusal}
use Rattle.aoe_copy.specs.declared.end.CopyRefusal.TheVariants as copy

abbrev pub copy_code : CopyRefusal → ℕ
copy_code copy.SourceFault = 3
copy_code copy.SinkFault = 4
copy_code (copy.Tool r) = code_of r
copy_code (copy.Stream offset) = 11

abbrev pub copy_text : CopyRefusal → List ℕ
copy_text copy.SourceFault = codes "aoe: source fault"
copy_text copy.SinkFault = codes "aoe: sink fault"
copy_text (copy.Tool r) = text_of r
copy_text (copy.Stream offset) = codes "aoe: bad stream at byte " ++ decimal offset

-- why an outcome ends a copy: the device refused, or the command was given up
abbrev pub failure : ℕ → Outcome → Option ToolRefusal
failure turns (outcome.AoeError error) = Some (tool.Refused (refusal.Aoe error))
failure turns (outcome.AtaError status error) = Some (tool.Refused (refusal.Ata status error))
failure turns (outcome.GaveUp first now) = Some (tool.Unanswered turns)
failure turns (outcome.Read bytes) = None
failure turns outcome.Written = None
failure turns outcome.Flushed = None
failure turns (outcome.Told args) = None
