use Rattle.std.proofs.Common.{take}
use Rattle.aoe_hold.specs.HoldTable.{NonePastBefore, OnePastFrom}
use Rattle.aoe_hold.proofs.held.first_past.Given as goal

-- of the commands so far none is past before that time, and from then on one is
abbrev pub invariant-looked : goal.invariant-looked
invariant-looked l = NonePastBefore l.life.0 l.from (take l.command-index l.commands) × OnePastFrom l.life.0 l.from (take l.command-index l.commands)
