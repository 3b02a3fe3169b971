-- A source that is read to its end.
use Rattle.std.specs.Prelude.{ℕ, ◌≡◌, ◌+◌, ◌%◌, ◌≤◌, List, length, Option}
use Rattle.aoe_io.specs.Bytes.{Gave, IsEnded}

-- how many bytes a source is asked for at a time
abbrev pub input_piece : ℕ
input_piece = 65536

-- what was read of a source: all of it where that isn't more than so many bytes, and else at most a piece more
pub record IsReadUpTo (most : ℕ) (left left' : Option (List ℕ)) (bytes : List ℕ) : Type 0 where
  pub gave : Gave left left' bytes
  pub ended : length bytes ≤ most → IsEnded left'
  pub within : length bytes ≤ most + input_piece

-- what was read when there was no memory for the next piece: whole pieces, and not more than so many bytes
pub record IsReadInPart (most : ℕ) (left left' : Option (List ℕ)) : Type 0 where
  pub bytes : List ℕ
  pub gave : Gave left left' bytes
  pub within : length bytes ≤ most
  pub pieces : length bytes % input_piece ≡ 0
