-- An end of two links that are joined.
use Rattle.std.specs.Prelude.{ℕ}

-- how many frames wait at most in each direction, and the turns and the faults so far
pub record Joined : Type 0 where
  pub room : ℕ
  pub turns : ℕ
  pub faults : ℕ
