use Rattle.std.proofs.Common.{refl, ap, None}
use Rattle.aoe_history.specs.Groups.Act.{Tick}
use Rattle.aoe_world.proofs.ActLemmas.{none-came, turning-ticked}
use Rattle.aoe_world.proofs.sim.Sim.tick.Goals as goal

pub returns : goal.returns
returns c s majors net k =
    let run = c.in_ok-tick.ensures.ok in
    (None, (refl, ap (λ r. r.entries) run), turning-ticked c.args.ms k run refl refl)

pub returns-in_err-tick : goal.returns-in_err-tick
returns-in_err-tick c s majors net k =
    none-came c.from_residual.result s majors (Tick c.args.ms) c.args.self.now _ c.from_residual.ensures.1 refl c.in_err-tick.ensures.err k.lawful
