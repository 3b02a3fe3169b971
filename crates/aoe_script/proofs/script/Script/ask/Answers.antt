use Rattle.std.proofs.Common.{arith, rules}
use Rattle.aoe_script.proofs.ScriptLemmas.{asked_more}
use Rattle.aoe_script.proofs.script.Script.ask.Goals as goal
use Rattle.aoe_script.proofs.script.Script.ask.Goals.{in-Ok, in-Err}

pub invariant_of-self : goal.invariant_of-self
invariant_of-self c =
    elim c.match-push.branch [
      | in-Ok w ↦ asked_more c.self.inside.setups.items c.self.inside.events.items c.push.new.self.items c.args.event c.self.invariant (search rules)
          (omega arith) c.fields_fit.ensures w.in-Ok.ensures.items
      | in-Err w ↦ rw w.in-Err.ensures.items c.self.invariant
    ]
