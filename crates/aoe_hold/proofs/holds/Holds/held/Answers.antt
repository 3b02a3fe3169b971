use Rattle.std.proofs.Common.{◌∙◌}
use Rattle.aoe_hold.proofs.LiveLemmas.{count-same, recalls-view}
use Rattle.aoe_hold.proofs.holds.Holds.held.Goals as goal

pub returns-clause-value : goal.returns-clause-value
returns-clause-value c = rw (← c.self.view_is) c.self.invariant.0.2

pub returns-clause-entered : goal.returns-clause-entered
returns-clause-entered c = λ entered recalls. c.self.invariant.0.2 ∙ count-same c.self.inside.life.0 c.self.inside.latest.0 c.self.inside.commands.items
    entered (recalls-view _ _ entered c.self.view_is recalls)
