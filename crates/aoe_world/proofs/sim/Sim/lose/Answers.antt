use Rattle.std.proofs.Common.{refl}
use Rattle.aoe_history.specs.Groups.Act.{Lose}
use Rattle.aoe_world.proofs.ActLemmas.{lost-by, none-came}
use Rattle.aoe_world.proofs.sim.Sim.lose.Goals as goal

pub returns : goal.returns
returns c s majors net k =
    lost-by c.args.frame.0 _ c.args.self.now (record c.args.self.now { run = c.note.new.self }) k c.from.ensures c.in_ok-note.ensures.ok refl refl

pub returns-in_err-note : goal.returns-in_err-note
returns-in_err-note c s majors net k =
    none-came c.from_residual.result s majors (Lose c.args.frame.0) c.args.self.now _ c.from_residual.ensures.1 refl c.in_err-note.ensures.err k.lawful
