-- The registers of an ATA command (AoEr11, "ATA command").
use Rattle.std.specs.Prelude.{ℕ, List, [], ◌∷◌, ◌++◌, length, nat_le, Option, Some, None, if◌then◌else◌, slice_index, slice_range, take}
use Rattle.std.specs.Int.{w64, to_le_bytes, from_le_bytes}
use Rattle.aoe_ata.specs.declared.args.AtaArgs.{AtaArgs}

-- the address in six bytes, the least significant first
abbrev pub address_of : List ℕ → ℕ
address_of bytes = from_le_bytes w64 (bytes ++ 0 ∷ 0 ∷ [])

-- the registers, of at least 12 bytes
abbrev pub registers : List ℕ → AtaArgs
registers b = record {
  aflags = slice_index b 0;
  feature = slice_index b 1;
  count = slice_index b 2;
  code = slice_index b 3;
  lba = address_of (slice_range b 4 10);
}

-- the registers that the bytes begin with, or nothing where there are fewer than 12 bytes
abbrev pub args_of : List ℕ → Option AtaArgs
args_of b = if nat_le 12 (length b) then Some (registers b) else None

-- the 12 bytes of the registers: the last two are reserved
abbrev pub args_bytes : AtaArgs → List ℕ
args_bytes a = (a.aflags ∷ a.feature ∷ a.count ∷ a.code ∷ []) ++ take 6 (to_le_bytes w64 a.lba) ++ 0 ∷ 0 ∷ []
