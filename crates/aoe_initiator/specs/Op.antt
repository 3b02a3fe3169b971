-- What a host asks of a device, as the order of commands and the frames see it.
use Rattle.std.specs.Prelude.{ℕ, ◌≡◌, ◌≤◌, ◌*◌, ◌/◌, ◌%◌, ◌==◌, ◌||◌, Bool, true, false, [], length}
use Rattle.aoe_base.specs.declared.sectors.Span.{Span}
use Rattle.aoe_hold.specs.declared.command.Kind.{Kind}
use Rattle.aoe_hold.specs.declared.command.Kind.TheVariants.{Read as ReadKind, Write as WriteKind, Flush as FlushKind, Edit, Other}
use Rattle.aoe_initiator.specs.declared.op.Op.{Op}
use Rattle.aoe_initiator.specs.declared.op.Op.TheVariants.{Read, Write, Flush, Identify, Config, Masks, Reserve}

-- the command of the frame's header: ATA, query config, MAC mask list, reserve and release
abbrev pub command_of : Op → ℕ
command_of (Read span) = 0
command_of (Write at bytes) = 0
command_of Flush = 0
command_of Identify = 0
command_of (Config ccmd text) = 1
command_of (Masks edit dirs) = 2
command_of (Reserve rcmd list) = 3

abbrev pub edit_if : Bool → Kind
edit_if true = Edit
edit_if false = Other

-- what the order of commands goes by: CCmd 3 and 4 set the config string, RCmd 1 and 2 the reserve list
abbrev pub kind_of : Op → Kind
kind_of (Read span) = ReadKind
kind_of (Write at bytes) = WriteKind
kind_of Flush = FlushKind
kind_of Identify = Other
kind_of (Config ccmd text) = edit_if (ccmd == 3 || ccmd == 4)
kind_of (Masks edit dirs) = edit_if edit
kind_of (Reserve rcmd list) = edit_if (rcmd == 1 || rcmd == 2)

-- the sectors that are read or written; none where the operation has no sector
abbrev pub span_of : Op → Span
span_of (Read span) = span
span_of (Write at bytes) = record { at = at; count = length bytes / 512 }
span_of Flush = record { at = 0; count = 0 }
span_of Identify = record { at = 0; count = 0 }
span_of (Config ccmd text) = record { at = 0; count = 0 }
span_of (Masks edit dirs) = record { at = 0; count = 0 }
span_of (Reserve rcmd list) = record { at = 0; count = 0 }

-- how many bytes of data a response has: the sectors that are read, or the identify page
abbrev pub data_len : Op → ℕ
data_len (Read span) = 512 * span.count
data_len (Write at bytes) = 0
data_len Flush = 0
data_len Identify = 512
data_len (Config ccmd text) = 0
data_len (Masks edit dirs) = 0
data_len (Reserve rcmd list) = 0

-- what a host may submit: whole sectors, a string of at most 1024 bytes, fields with a value that they take,
-- and directives only where the list is edited
abbrev pub CanSubmit : Op → Type 0
CanSubmit (Read span) = Unit {0}
CanSubmit (Write at bytes) = length bytes % 512 ≡ 0
CanSubmit Flush = Unit {0}
CanSubmit Identify = Unit {0}
CanSubmit (Config ccmd text) = (ccmd ≤ 4) × (length text ≤ 1024)
CanSubmit (Masks edit dirs) = edit ≡ false → dirs.items ≡ []
CanSubmit (Reserve rcmd list) = rcmd ≤ 2
