-- The exit status and the text of each way that a tool ends without its answer.
use Rattle.std.specs.Prelude.{ℕ, List, ◌++◌, codes}
use Rattle.std.specs.Fmt.{decimal}
use Rattle.aoe_base.specs.Names.{mac_text, pair_text}
use Rattle.aoe_tools.specs.declared.end.Refusal.{Refusal}
use Rattle.aoe_tools.specs.declared.end.Refusal.TheVariants as refusal
use Rattle.aoe_tools.specs.declared.end.ToolRefusal.{ToolRefusal}
use Rattle.aoe_tools.specs.declared.end.ToolRefusal.TheVariants as tool

abbrev pub code_of : ToolRefusal → ℕ
code_of tool.LinkFault = 6
code_of tool.NoMemory = 7
code_of (tool.Unanswered turns) = 9
code_of (tool.Refused r) = 10

-- a refusal: the registers in two hexadecimal digits each, the other codes in decimal
abbrev pub refusal_text : Refusal → List ℕ
refusal_text (refusal.Aoe error) = codes "aoe: refused: AoE error " ++ decimal error
refusal_text (refusal.Ata status error) = codes "aoe: refused: ATA status " ++ (pair_text status ++ (codes " error " ++ pair_text error))
refusal_text (refusal.Mask error) = codes "aoe: refused: mask error " ++ decimal error
refusal_text refusal.Range = codes "aoe: refused: range"
refusal_text (refusal.Differs sector) = codes "aoe: refused: sector " ++ (decimal sector ++ codes " differs")
refusal_text (refusal.LocksOut port) = codes "aoe: this would lock " ++ (mac_text (record { 0 = port }) ++ codes " out: --anyway does it")
refusal_text (refusal.Group mac) =
    codes "aoe: " ++ (mac_text (record { 0 = mac }) ++ codes " is a group, from which no frame comes: --anyway adds it")

abbrev pub text_of : ToolRefusal → List ℕ
text_of tool.LinkFault = codes "aoe: link fault on port 0"
text_of tool.NoMemory = codes "aoe: no memory"
text_of (tool.Unanswered turns) = codes "aoe: no answer in " ++ (decimal turns ++ codes " turns")
text_of (tool.Refused r) = refusal_text r
