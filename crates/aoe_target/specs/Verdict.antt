-- What a target does with a frame: the first check that applies decides (AoEr11, "Common AoE header" and the four commands).
use Rattle.std.specs.Prelude.{ℕ, ◌^◌, ◌<◌, Bool, ◌&&◌, ◌||◌, ◌==◌, not, List, drop, nat_lt, Option, Some, None, Result, Ok, Err, if◌then◌else◌, is_some}
use Rattle.aoe_base.specs.declared.address.Mac.{Mac}
use Rattle.aoe_frame.specs.Header.{head, fields}
use Rattle.aoe_frame.specs.declared.header.Header.{Header}
use Rattle.aoe_base.specs.declared.refusal.AoeError.{AoeError}
use Rattle.aoe_base.specs.declared.refusal.AoeError.TheVariants.{UnrecognizedCommand, UnsupportedVersion, TargetIsReserved}
use Rattle.aoe_base.specs.Addresses.{broadcast, holds, same_address}
use Rattle.aoe_ata.specs.declared.decision.AtaAnswer.{AtaAnswer}
use Rattle.aoe_ata.specs.declared.decision.AtaAnswer.TheVariants.{Abort, Put}
use Rattle.aoe_ata.specs.declared.decision.AtaDecision.{AtaDecision}
use Rattle.aoe_ata.specs.Decision.{decision, CanServe}
use Rattle.aoe_lists.specs.declared.config.Facts.{Facts}
use Rattle.aoe_lists.specs.Step.{Step}
use Rattle.aoe_lists.specs.Settings.{Settings, admits, may_use}
use Rattle.aoe_lists.specs.Config.{config_answer}
use Rattle.aoe_lists.specs.Masks.{mask_answer}
use Rattle.aoe_lists.specs.Reserves.{reserve_answer}
use Rattle.aoe_target.specs.declared.station.Station.{Station}
use Rattle.aoe_target.specs.declared.verdict.ListCommand.{ListCommand}
use Rattle.aoe_target.specs.declared.verdict.ListCommand.TheVariants.{Config, Masks, Reserves}
use Rattle.aoe_target.specs.declared.verdict.Verdict.{Verdict}
use Rattle.aoe_target.specs.declared.verdict.Verdict.TheVariants.{Ignored, Silent, Refused, Lists, Ata}

-- the request is for the target: to a port of its shelf or to all stations, no response, to its shelf or all, to its slot or all
abbrev pub is_heard : Station → Header → Bool
is_heard station h = (holds station.ports.items h.dst || same_address h.dst broadcast)
    && nat_lt h.flags 8
    && (h.id.major == station.id.major || h.id.major == 65535)
    && (h.id.minor == station.id.minor || h.id.minor == 255)

-- a write within a read-only device is aborted (ATA/ATAPI Command Set, "WRITE SECTOR(S)": ABRT); all else is done there as elsewhere
abbrev pub as_marked : Bool → AtaAnswer → AtaAnswer
as_marked read_only (Put span) = if read_only then Abort else Put span
as_marked read_only answer = answer

-- what is done with a frame, by a device that may be read-only
abbrev pub marked : Bool → Verdict → Verdict
marked read_only (Ata d) = Ata (record d { answer = as_marked read_only d.answer })
marked read_only v = v

-- the registers are taken, or there is an error
abbrev pub decided : Bool → Result AtaDecision AoeError → Verdict
decided read_only (Ok d) = marked read_only (Ata d)
decided read_only (Err error) = Refused error

-- an ATA command: its source may be kept out by the reserve list, before its arguments are looked at
abbrev pub ata_verdict : Station → Settings → Mac → List ℕ → Verdict
ata_verdict station lists source args =
    if not (may_use lists source) then Refused TargetIsReserved
    else decided lists.read_only (decision station.sectors station.max args)

-- the part of the lists that a command is about
abbrev pub list_command_of : ℕ → Option ListCommand
list_command_of command =
    if command == 1 then Some Config
    else if command == 2 then Some Masks
    else if command == 3 then Some Reserves
    else None

-- a request with this header and these bytes behind it
abbrev pub judged : Station → Settings → Header → List ℕ → Verdict
judged station lists h args =
    if not (is_heard station h) then Ignored
    else if not (admits lists h.src) then Silent
    else if not (h.version == 1) then Refused UnsupportedVersion
    else if h.command == 0 then ata_verdict station lists h.src args
    else if h.command == 1 then Lists Config
    else if h.command == 2 then Lists Masks
    else if h.command == 3 then Lists Reserves
    else Refused UnrecognizedCommand

-- a frame, which is ignored where it has no header
unfoldable pub verdict : Station → Settings → List ℕ → Verdict
verdict station lists f = if is_some (head f) then judged station lists (fields f) (drop 24 f) else Ignored

-- what the target says of itself: it holds up to 16 requests, and its firmware is version 1
abbrev pub facts : Station → Facts
facts station = record { buffers = 16; firmware = 1; max = station.max }

-- the written answer to a request that reads or changes the lists
abbrev pub list_step : Station → Settings → Mac → List ℕ → ListCommand → Step
list_step station lists source args Config = config_answer lists (facts station) args
list_step station lists source args Masks = mask_answer lists args
list_step station lists source args Reserves = reserve_answer lists source args

-- whatever the store is called with is in range, and the address has its 48 bits
abbrev pub CanAct : Station → List ℕ → Verdict → Type 0
CanAct station args Ignored = Unit {0}
CanAct station args Silent = Unit {0}
CanAct station args (Refused error) = Unit {0}
CanAct station args (Lists command) = Unit {0}
CanAct station args (Ata d) = (d.args.lba < 2 ^ 48) × CanServe station.sectors station.max args d.answer
