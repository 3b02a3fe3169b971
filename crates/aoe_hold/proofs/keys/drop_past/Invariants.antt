use Rattle.std.proofs.Common.{take}
use Rattle.aoe_hold.specs.declared.command.Command.{Command}
use Rattle.aoe_hold.specs.Extents.{AreLeft, HasKey, IsNonePast}
use Rattle.aoe_hold.proofs.keys.drop_past.Given as goal

-- a command that isn't past kept its key so far, and those that are past have none
abbrev pub invariant-held : goal.invariant-held
invariant-held l =
    ((c : Command) → IsNonePast l.life.0 l.now.0 l.commands c → HasKey l.fn.keys c → HasKey l.keys c)
    × AreLeft l.life.0 l.now.0 (take l.command-index l.commands) l.fn.keys l.keys
