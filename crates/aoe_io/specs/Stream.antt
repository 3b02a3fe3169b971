-- The stream of frames.
use Rattle.std.specs.Prelude.{ℕ, ◌+◌, ◌*◌, ◌<◌, ◌≤◌, ◌⊎◌, List, [], ◌∷◌, ◌++◌, length, ⊤}
use Rattle.std.specs.List.{flat_map}
use Rattle.std.specs.Int.{w16, to_be_bytes}
use Rattle.aoe_base.specs.Sizes.{longest_frame}

-- a frame on the stream: its length in two bytes, then its bytes
abbrev pub framed : List ℕ → List ℕ
framed f = to_be_bytes w16 (length f) ++ f

-- the stream of these frames
abbrev pub stream : List (List ℕ) → List ℕ
stream frames = flat_map framed frames

-- the lengths that a frame may have
pub record IsLength (n : ℕ) : Type 0 where
  pub long : 14 ≤ n
  pub short : n ≤ longest_frame

-- bytes that may stand on the stream as one frame
abbrev pub IsFrame : List ℕ → Type 0
IsFrame f = IsLength (length f)

-- bytes that end within a length or a frame, or begin with a length that no frame has
abbrev pub IsBroken : List ℕ → Type 0
IsBroken [] = ⊥
IsBroken (b ∷ []) = ⊤
IsBroken (high ∷ low ∷ rest) = let n = high * 256 + low in (n < 14) ⊎ (longest_frame < n) ⊎ (length rest < n)
