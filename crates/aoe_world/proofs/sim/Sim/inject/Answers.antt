use Rattle.std.proofs.Common.{refl}
use Rattle.aoe_world.proofs.ActLemmas.{injected-by}
use Rattle.aoe_world.proofs.sim.Sim.inject.Goals as goal

pub returns : goal.returns
returns c s majors net ready foreign =
    rw (← c.bytes.ensures) (injected-by c.inject.result s majors c.bytes.result.now c.args.self.now _ ready (rw (← c.bytes.ensures) at foreign) refl refl
    c.inject.ensures.ok c.inject.ensures.full c.inject.ensures.err)
