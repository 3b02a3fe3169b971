use Rattle.std.proofs.Common.{rules}
use Rattle.aoe_script.proofs.ScriptLemmas.{declared_more}
use Rattle.aoe_script.proofs.script.Script.place.Goals as goal
use Rattle.aoe_script.proofs.script.Script.place.Goals.{in-Ok, in-Err}

pub invariant_of-self : goal.invariant_of-self
invariant_of-self c =
    elim c.match-push.branch [
      | in-Ok w ↦ declared_more c.self.inside.setups.items c.push.new.self.items c.self.inside.events.items c.args.setup c.self.invariant (search rules)
          (search rules) c.fields_fit.ensures w.in-Ok.ensures.items
      | in-Err w ↦ rw w.in-Err.ensures.items c.self.invariant
    ]
