-- What a response says of its command (AoEr11, "ATA command", "Query Config Information", "MAC Mask List", "Reserve / Release").
use Rattle.std.specs.Prelude.{ℕ, ◌≡◌, ◌+◌, ◌-◌, ◌*◌, ◌≤◌, Bool, not, ◌||◌, ◌&&◌, ◌==◌, nat_le, List, length, take, Option, Some, None, if◌then◌else◌, slice_index, slice_range, bit_and}
use Rattle.std.specs.Int.{w16, from_be_bytes}
use Rattle.aoe_frame.specs.declared.header.Header.{Header}
use Rattle.aoe_initiator.specs.declared.op.Op.{Op}
use Rattle.aoe_initiator.specs.declared.op.Op.TheVariants.{Read, Write, Flush, Identify, Config, Masks, Reserve}
use Rattle.aoe_initiator.specs.declared.outcome.Outcome.{Outcome}
use Rattle.aoe_initiator.specs.declared.outcome.Outcome.TheVariants.{Read as ReadOutcome, Written as WrittenOutcome, Flushed as FlushedOutcome, Told as ToldOutcome, AtaError as AtaErrorOutcome, AoeError as AoeErrorOutcome}
use Rattle.aoe_initiator.specs.declared.response.Answer.{Answer}
use Rattle.aoe_initiator.specs.declared.response.Answer.TheVariants.{Data, Written, Flushed, Told, AtaError, AoeError}

-- a flag is set
abbrev pub has_flag : ℕ → ℕ → Bool
has_flag n flag = not (bit_and n flag == 0)

-- the status of a command that failed: ERR or DF
abbrev pub is_failure : ℕ → Bool
is_failure status = has_flag status 0x01 || has_flag status 0x20

-- as many bytes of data, where they are there
abbrev pub data_if : ℕ → ℕ → Option Answer
data_if len there = if nat_le len there then Some (Data len) else None

-- a command that didn't fail: a read has its sectors and an identify its page, among the bytes behind the registers
abbrev pub ata_success : Op → ℕ → Option Answer
ata_success (Read span) there = data_if (512 * span.count) there
ata_success (Write at bytes) there = Some Written
ata_success Flush there = Some Flushed
ata_success Identify there = data_if 512 there
ata_success (Config ccmd text) there = None
ata_success (Masks edit dirs) there = None
ata_success (Reserve rcmd list) there = None

-- an ATA response has its registers, and its status tells whether the command failed
abbrev pub ata_answer : Op → List ℕ → Option Answer
ata_answer op args =
    if nat_le 12 (length args)
    then (if is_failure (slice_index args 3) then Some (AtaError (slice_index args 3) (slice_index args 1)) else ata_success op (length args - 12))
    else None

-- the length of the arguments, where the bytes that say it are there: so many behind the fixed ones
abbrev pub config_len : List ℕ → Option ℕ
config_len args =
    if nat_le 8 (length args) && nat_le (from_be_bytes w16 (slice_range args 6 8)) 1024
    then Some (8 + from_be_bytes w16 (slice_range args 6 8))
    else None

abbrev pub mask_len : List ℕ → Option ℕ
mask_len args = if nat_le 4 (length args) then Some (4 + 8 * slice_index args 3) else None

abbrev pub reserve_len : List ℕ → Option ℕ
reserve_len args = if nat_le 2 (length args) then Some (2 + 6 * slice_index args 1) else None

-- the arguments, where they are all there
abbrev pub told : Option ℕ → List ℕ → Option Answer
told (Some len) args = if nat_le len (length args) then Some (Told len) else None
told None args = None

-- what a response without an error says
abbrev pub success : Op → List ℕ → Option Answer
success (Read span) args = ata_answer (Read span) args
success (Write at bytes) args = ata_answer (Write at bytes) args
success Flush args = ata_answer Flush args
success Identify args = ata_answer Identify args
success (Config ccmd text) args = told (config_len args) args
success (Masks edit dirs) args = told (mask_len args) args
success (Reserve rcmd list) args = told (reserve_len args) args

-- what a response says, by its header and the bytes behind it; nothing where it isn't well formed
unfoldable pub answer : Op → Header → List ℕ → Option Answer
answer op header args = if has_flag header.flags 0x4 then Some (AoeError header.error) else success op args

-- the outcome that an answer gives: exactly these bytes, what follows them is left out
abbrev pub outcome_of : Answer → List ℕ → Outcome
outcome_of (Data len) args = ReadOutcome (slice_range args 12 (12 + len))
outcome_of Written args = WrittenOutcome
outcome_of Flushed args = FlushedOutcome
outcome_of (Told len) args = ToldOutcome (record { items = take len args })
outcome_of (AtaError status error) args = AtaErrorOutcome status error
outcome_of (AoeError error) args = AoeErrorOutcome error

-- the bytes that an answer speaks of are there, and data has room for just as many
abbrev pub CanFill : Answer → List ℕ → ℕ → Type 0
CanFill (Data len) args room = (room ≡ len) × (12 + len ≤ length args)
CanFill Written args room = Unit {0}
CanFill Flushed args room = Unit {0}
CanFill (Told len) args room = (len ≤ length args) × (len ≤ 2048)
CanFill (AtaError status error) args room = Unit {0}
CanFill (AoeError error) args room = Unit {0}
