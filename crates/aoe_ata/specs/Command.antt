-- The commands that have an answer, and their sectors (ATA/ATAPI Command Set, "Command descriptions").
use Rattle.std.specs.Prelude.{ℕ, ◌%◌, ◌^◌, List, [], ◌∷◌, ◌==◌, Option, Some, None, if◌then◌else◌, find}
use Rattle.aoe_base.specs.declared.sectors.Span.{Span}
use Rattle.aoe_ata.specs.declared.args.AtaArgs.{AtaArgs}
use Rattle.aoe_ata.specs.declared.command.CommandCode.{CommandCode}
use Rattle.aoe_ata.specs.declared.command.CommandCode.TheVariants.{ReadSectors, ReadSectorsExt, WriteSectors, WriteSectorsExt, ReadVerifySectors, ReadVerifySectorsExt, CheckPowerMode, FlushCache, FlushCacheExt, IdentifyDevice}
use Rattle.aoe_ata.specs.declared.command.AtaCommand.{AtaCommand}
use Rattle.aoe_ata.specs.declared.command.AtaCommand.TheVariants.{Read, Write, Verify, Flush, Identify, PowerMode, Unknown}

-- the code of a command
abbrev pub code_of : CommandCode → ℕ
code_of ReadSectors = 0x20
code_of ReadSectorsExt = 0x24
code_of WriteSectors = 0x30
code_of WriteSectorsExt = 0x34
code_of ReadVerifySectors = 0x40
code_of ReadVerifySectorsExt = 0x42
code_of CheckPowerMode = 0xe5
code_of FlushCache = 0xe7
code_of FlushCacheExt = 0xea
code_of IdentifyDevice = 0xec

abbrev pub commands : List CommandCode
commands = ReadSectors ∷ ReadSectorsExt ∷ WriteSectors ∷ WriteSectorsExt ∷ ReadVerifySectors ∷ ReadVerifySectorsExt
    ∷ CheckPowerMode ∷ FlushCache ∷ FlushCacheExt ∷ IdentifyDevice ∷ []

-- the command that has a code
abbrev pub command_with : ℕ → Option CommandCode
command_with code = find (λ c. code_of c == code) commands

-- how many sectors a count register stands for, in which 0 stands for the most
abbrev pub sector_count : ℕ → ℕ → ℕ
sector_count most register = if register == 0 then most else register

-- the sectors of a command with an address of 28 bits
abbrev pub short_span : AtaArgs → Span
short_span a = record { at = a.lba % 2 ^ 28; count = sector_count 256 a.count }

-- the sectors of a command with an address of 48 bits
abbrev pub long_span : AtaArgs → Span
long_span a = record { at = a.lba; count = sector_count 65536 a.count }

-- what a command asks for with these registers
abbrev pub asked : AtaArgs → Option CommandCode → AtaCommand
asked a (Some ReadSectors) = Read (short_span a)
asked a (Some ReadSectorsExt) = Read (long_span a)
asked a (Some WriteSectors) = Write (short_span a)
asked a (Some WriteSectorsExt) = Write (long_span a)
asked a (Some ReadVerifySectors) = Verify (short_span a)
asked a (Some ReadVerifySectorsExt) = Verify (long_span a)
asked a (Some CheckPowerMode) = PowerMode
asked a (Some FlushCache) = Flush
asked a (Some FlushCacheExt) = Flush
asked a (Some IdentifyDevice) = Identify
asked a None = Unknown

-- what registers ask for
abbrev pub command_of : AtaArgs → AtaCommand
command_of a = asked a (command_with a.code)
