-- What the law of names says of the numbers.
use Rattle.aoe_args.proofs.RangeLemmas.{is_device}
use Rattle.aoe_args.proofs.tools.device_of.Goals as goal

pub returns-clause-range : goal.returns-clause-range
returns-clause-range c = rw c.read_device.ensures (is_device _ c.device_law.ensures)
