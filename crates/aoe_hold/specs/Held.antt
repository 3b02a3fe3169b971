-- The held commands, with their keys.
use Rattle.std.specs.Prelude.{ℕ, List}
use Rattle.std.specs.BTreeSet.{BTreeSet}
use Rattle.aoe_hold.specs.declared.command.Command.{Command}
use Rattle.aoe_hold.specs.declared.keys.Key.{Key}

-- the commands, the keys by which they are found, and for how many commands there is memory
pub record HeldTable : Type 0 where
  pub items : List Command
  pub keys : BTreeSet Key
  pub capacity : ℕ
