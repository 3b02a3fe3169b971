-- The one frame that asks for an operation (AoEr11, "ATA command", "Query Config Information", "MAC Mask List", "Reserve / Release").
use Rattle.std.specs.Prelude.{ℕ, ◌/◌, ◌^◌, ◌<◌, ◌≤◌, Bool, List, [], ◌∷◌, ◌++◌, length, if◌then◌else◌}
use Rattle.std.specs.Int.{w16, to_be_bytes}
use Rattle.std.specs.List.{flat_map}
use Rattle.aoe_base.specs.declared.address.Mac.{Mac}
use Rattle.aoe_base.specs.declared.address.TargetId.{TargetId}
use Rattle.aoe_base.specs.declared.sectors.Span.{Span}
use Rattle.aoe_frame.specs.declared.header.Header.{Header}
use Rattle.aoe_frame.specs.Header.{header_bytes, padded}
use Rattle.aoe_ata.specs.declared.args.AtaArgs.{AtaArgs}
use Rattle.aoe_ata.specs.Args.{args_bytes}
use Rattle.aoe_lists.specs.declared.dir.Dir.{Dir}
use Rattle.aoe_initiator.specs.declared.op.FlushCommand.{FlushCommand}
use Rattle.aoe_initiator.specs.declared.op.FlushCommand.TheVariants.{Cache, CacheExt}
use Rattle.aoe_initiator.specs.declared.op.Op.{Op}
use Rattle.aoe_initiator.specs.declared.op.Op.TheVariants.{Read, Write, Flush, Identify, Config, Masks, Reserve}
use Rattle.aoe_initiator.specs.Op.{command_of}

-- the registers of a command on these sectors, with a code and AFlags
abbrev pub registers_of : ℕ → ℕ → Span → AtaArgs
registers_of aflags code span = record { aflags = aflags; feature = 0; count = span.count; code = code; lba = span.at }

-- a directive: reserved, DCmd 1 to add and 2 to delete, the address
abbrev pub dir_bytes : Dir → List ℕ
dir_bytes dir = 0 ∷ (if dir.add then 1 else 2) ∷ dir.mac.0

-- the arguments of a query config request: the fields of a reply are zero, then CCmd, the string's length and the string
abbrev pub config_bytes : ℕ → List ℕ → List ℕ
config_bytes ccmd text = (0 ∷ 0 ∷ 0 ∷ 0 ∷ 0 ∷ ccmd ∷ []) ++ to_be_bytes w16 (length text) ++ text

-- the arguments of a mask list request: reserved, MCmd 1 to edit and 0 to read, MError, Dir Count, the directives
abbrev pub mask_bytes : Bool → List Dir → List ℕ
mask_bytes edit dirs = (0 ∷ (if edit then 1 else 0) ∷ 0 ∷ length dirs ∷ []) ++ flat_map dir_bytes dirs

-- the arguments of a reserve request: RCmd, NMacs, the addresses
abbrev pub reserve_bytes : ℕ → List Mac → List ℕ
reserve_bytes rcmd list = (rcmd ∷ length list ∷ []) ++ flat_map (λ a. a.0) list

-- the arguments of a write: its registers, and its sectors
abbrev pub write_bytes : ℕ → List ℕ → List ℕ
write_bytes at bytes = args_bytes (registers_of 0x41 0x34 (record { at = at; count = length bytes / 512 })) ++ bytes

-- the registers of a flush: those of 28 bits for FLUSH CACHE, those of 48 for FLUSH CACHE EXT (ATA/ATAPI Command Set, "FLUSH CACHE",
-- "FLUSH CACHE EXT")
abbrev pub flush_registers : FlushCommand → AtaArgs
flush_registers Cache = registers_of 0 0xe7 (record { at = 0; count = 0 })
flush_registers CacheExt = registers_of 0x40 0xea (record { at = 0; count = 0 })

-- the bytes behind the header: READ SECTORS EXT, WRITE SECTORS EXT, the device's flush command and IDENTIFY DEVICE with their registers
abbrev pub arguments : FlushCommand → Op → List ℕ
arguments flush (Read span) = args_bytes (registers_of 0x40 0x24 span)
arguments flush (Write at bytes) = write_bytes at bytes
arguments flush Flush = args_bytes (flush_registers flush)
arguments flush Identify = args_bytes (registers_of 0 0xec (record { at = 0; count = 1 }))
arguments flush (Config ccmd text) = config_bytes ccmd text
arguments flush (Masks edit dirs) = mask_bytes edit dirs.items
arguments flush (Reserve rcmd list) = reserve_bytes rcmd list.items

-- the header: version 1, without a flag or an error
abbrev pub request_header : Op → TargetId → Mac → Mac → ℕ → Header
request_header op id remote local tag = record {
  dst = remote;
  src = local;
  version = 1;
  flags = 0;
  error = 0;
  id = id;
  command = command_of op;
  tag = tag;
}

-- the frame that asks a device for an operation, from a local port to a remote one; only a flush goes by its flush command
unfoldable pub request : FlushCommand → Op → TargetId → Mac → Mac → ℕ → List ℕ
request flush op id remote local tag = padded (header_bytes (request_header op id remote local tag) ++ arguments flush op)

-- an operation that a frame has room for: up to 17 sectors below 2^48, a string of at most 1024 bytes
abbrev pub CanSpell : Op → Type 0
CanSpell (Read span) = (span.at < 2 ^ 48) × (span.count ≤ 17)
CanSpell (Write at bytes) = (at < 2 ^ 48) × (length bytes ≤ 8704)
CanSpell Flush = Unit {0}
CanSpell Identify = Unit {0}
CanSpell (Config ccmd text) = length text ≤ 1024
CanSpell (Masks edit dirs) = Unit {0}
CanSpell (Reserve rcmd list) = Unit {0}
