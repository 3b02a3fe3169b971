-- Four at most, of which none stands twice.
use Rattle.std.proofs.Common.{rules}
use Rattle.aoe_args.proofs.PortLemmas.{are_ports}
use Rattle.aoe_args.proofs.ports.read_ports.Goals as goal

pub returns-then-all_unique-clause-ports : goal.returns-then-all_unique-clause-ports
returns-then-all_unique-clause-ports c = are_ports c.args.text.now c.in_ok-ports.ports.items c.in_ok-ports.ensures (search rules)
