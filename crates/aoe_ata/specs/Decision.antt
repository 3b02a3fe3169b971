-- What is answered to an ATA command before the device is called.
use Rattle.std.specs.Prelude.{ℕ, ◌+◌, ◌-◌, ◌*◌, ◌≤◌, Bool, true, ◌&&◌, List, length, nat_le, Result, Ok, Err, if◌then◌else◌, slice_range}
use Rattle.aoe_base.specs.declared.sectors.Span.{Span}
use Rattle.aoe_base.specs.declared.refusal.AoeError.{AoeError}
use Rattle.aoe_base.specs.declared.refusal.AoeError.TheVariants.{BadArgument}
use Rattle.aoe_ata.specs.declared.command.AtaCommand.{AtaCommand}
use Rattle.aoe_ata.specs.declared.command.AtaCommand.TheVariants.{Read, Write, Verify, Flush, Identify, PowerMode, Unknown}
use Rattle.aoe_ata.specs.declared.decision.AtaAnswer.{AtaAnswer}
use Rattle.aoe_ata.specs.declared.decision.AtaAnswer.TheVariants.{Abort, NotFound, Page, Mode, Give, Put, Verify as VerifySpan, Sync}
use Rattle.aoe_ata.specs.declared.decision.AtaDecision.{AtaDecision}
use Rattle.aoe_ata.specs.Args.{registers}
use Rattle.aoe_ata.specs.Command.{command_of}

-- a command has at most max sectors, and a write has its data among the room bytes behind the registers
abbrev pub is_taken : ℕ → ℕ → AtaCommand → Bool
is_taken max room (Read span) = nat_le span.count max
is_taken max room (Write span) = nat_le span.count max && nat_le (512 * span.count) room
is_taken max room (Verify span) = nat_le span.count max
is_taken max room Flush = true
is_taken max room Identify = true
is_taken max room PowerMode = true
is_taken max room Unknown = true

-- the answer of a device of total sectors, or that a sector isn't within it
abbrev pub within : ℕ → Span → AtaAnswer → AtaAnswer
within total span answer = if nat_le (span.at + span.count) total then answer else NotFound

-- the answer to a command that is taken
abbrev pub answer_of : ℕ → AtaCommand → AtaAnswer
answer_of total (Read span) = within total span (Give span)
answer_of total (Write span) = within total span (Put span)
answer_of total (Verify span) = within total span (VerifySpan span)
answer_of total Flush = Sync
answer_of total Identify = Page
answer_of total PowerMode = Mode
answer_of total Unknown = Abort

-- what a device of total sectors, with at most max of them in a command, answers to the bytes behind the header
unfoldable pub decision : ℕ → ℕ → List ℕ → Result AtaDecision AoeError
decision total max bytes =
    if nat_le 12 (length bytes) && is_taken max (length bytes - 12) (command_of (registers bytes))
    then Ok (record { args = registers bytes; answer = answer_of total (command_of (registers bytes)) })
    else Err BadArgument

-- the data of a write
abbrev pub written : List ℕ → Span → List ℕ
written bytes span = slice_range bytes 12 (12 + 512 * span.count)

-- one to max sectors, all of them within the device
pub record InRange (total max : ℕ) (span : Span) : Type 0 where
  pub some : 1 ≤ span.count
  pub most : span.count ≤ max
  pub end : span.at + span.count ≤ total

-- what the device is called with: sectors in range, and for a write as many data
abbrev pub CanServe : ℕ → ℕ → List ℕ → AtaAnswer → Type 0
CanServe total max bytes (Give span) = InRange total max span
CanServe total max bytes (Put span) = InRange total max span × (12 + 512 * span.count ≤ length bytes)
CanServe total max bytes (VerifySpan span) = InRange total max span
CanServe total max bytes Abort = Unit {0}
CanServe total max bytes NotFound = Unit {0}
CanServe total max bytes Page = Unit {0}
CanServe total max bytes Mode = Unit {0}
CanServe total max bytes Sync = Unit {0}
