-- What the calls of a medium came to.
use Rattle.std.specs.Prelude.{ℕ, List}
use Rattle.aoe_wire.specs.declared.medium.Given.{Given}
use Rattle.aoe_wire.specs.declared.medium.Taken.{Taken}

-- a call that takes, and the bytes that it left in the room for a frame
pub record Taking : Type 0 where
  pub what : Taken
  pub frame : List ℕ

-- a call that gives a frame to a peer
pub record Giving : Type 0 where
  pub peer : ℕ
  pub frame : List ℕ
  pub came : Given
