-- A text in fixed room.
use Rattle.std.specs.Prelude.{ℕ, ◌-◌, List, ◌++◌, length, replicate}

-- a text, filled with spaces on the right
abbrev pub filled : ℕ → List ℕ → List ℕ
filled len text = text ++ replicate (len - length text) 32
