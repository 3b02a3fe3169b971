use Rattle.aoe_tools.proofs.FoundLemmas.{ports-are}
use Rattle.aoe_tools.proofs.found.Found.ports_of.Goals as goal

pub returns-in-Some : goal.returns-in-Some
returns-in-Some c = ports-are c.self.inside.devices.entries c.args.id c.self.invariant c.self.view_is c.in-Some.ensures.value c.copied.ensures

pub returns-in-None : goal.returns-in-None
returns-in-None c = ports-are c.self.inside.devices.entries c.args.id c.self.invariant c.self.view_is c.in-None.ensures.value c.new.ensures
