-- What an event line of a script asks of a host.
use Rattle.std.specs.Prelude.{◌*◌, replicate, Option, Some, None, option_map}
use Rattle.aoe_initiator.specs.declared.op.Op.{Op}
use Rattle.aoe_initiator.specs.declared.op.Op.TheVariants as op
use Rattle.aoe_script.specs.declared.event.Event.{Event}
use Rattle.aoe_script.specs.declared.event.Event.TheVariants.{Read, Write, Flush, Identify, Config, Masks, Reserve}
use Rattle.aoe_history.specs.Commands.{Submission}

-- the device and the operation of an event line that submits one; every byte that a write line writes is the same
abbrev pub submission_in : Event → Option Submission
submission_in (Read host dev at count) = Some (record { dev = dev; op = op.Read (record { at = at; count = count }) })
submission_in (Write host dev at count fill) = Some (record { dev = dev; op = op.Write at (replicate (512 * count) fill) })
submission_in (Flush host dev) = Some (record { dev = dev; op = op.Flush })
submission_in (Identify host dev) = Some (record { dev = dev; op = op.Identify })
submission_in (Config host dev ccmd text) = Some (record { dev = dev; op = op.Config ccmd text })
submission_in (Masks host dev edit dirs) = Some (record { dev = dev; op = op.Masks edit dirs })
submission_in (Reserve host dev rcmd list) = Some (record { dev = dev; op = op.Reserve rcmd list })
submission_in event = None

-- the operation of such a line
abbrev pub op_of : Event → Option Op
op_of event = option_map (λ x. x.op) (submission_in event)
