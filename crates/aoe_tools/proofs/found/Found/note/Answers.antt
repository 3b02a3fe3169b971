use Rattle.aoe_tools.specs.Found.{seen}
use Rattle.aoe_tools.proofs.FoundLemmas.{named-still, noted-is}
use Rattle.aoe_tools.proofs.found.Found.note.Goals as goal
use Rattle.aoe_tools.proofs.found.Found.note.Goals.{in-Err, in-Ok}

pub invariant_of-self : goal.invariant_of-self
invariant_of-self c = elim c.match-insert.branch [
  | in-Ok w ↦ rw w.in-Ok.ensures.entries (named-still c.self.inside.devices.entries (seen c.args.id c.add_port.new.ports.items c.args.args) c.self.invariant)
  | in-Err w ↦ rw w.in-Err.ensures.err c.self.invariant
]

pub returns-clause-noted : goal.returns-clause-noted
returns-clause-noted c = elim c.match-insert.branch [
  | in-Ok w ↦ rw w.result-is
      (noted-is c.self.inside.devices.entries c.args.id c.args.port c.args.args c.self.invariant c.self.view_is c.ports_of-ports.ensures c.add_port.ensures
      w.in-Ok.ensures.entries)
  | in-Err w ↦ rw w.result-is tt
]
