-- Inputs that are read piece by piece.
use Rattle.std.proofs.Common.{ℕ, ◌≡◌, ◌+◌, ◌%◌, ◌≤◌, List, length, Option}
use Rattle.aoe_io.specs.Bytes.{Gave}

-- what was read so far
pub record IsBegun (most : ℕ) (left left' : Option (List ℕ)) (bytes : List ℕ) : Type 0 where
  pub gave : Gave left left' bytes
  pub within : length bytes ≤ most + 65536
  pub pieces : length bytes % 65536 ≡ 0
