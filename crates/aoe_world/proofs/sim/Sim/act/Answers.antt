use Rattle.aoe_world.proofs.ActLemmas.{act-done}
use Rattle.aoe_world.proofs.sim.Sim.act.Goals as goal

pub returns : goal.returns
returns c s majors net k foreign =
    let e = c.in_ok-enter.ensures s majors net k foreign in
    act-done c.settle.result s majors _ e.0 c.args.self.now c.enter.new.self c.settle.new.self e.1 (c.settle.ensures s majors e.0 net e.2)
