use Rattle.aoe_world.specs.declared.act.At.TheVariants as at
use Rattle.aoe_history.specs.Groups.Act.{Arm}
use Rattle.aoe_world.specs.Acts.{name_at}
use Rattle.aoe_world.specs.Sim.{IsEntered}
use Rattle.aoe_world.proofs.PlaceLemmas.{station-at-is}
use Rattle.aoe_world.proofs.SlotLemmas.{arm-named}
use Rattle.aoe_world.proofs.sim.Sim.enter.Goals as goal

pub returns-in-Submit : goal.returns-in-Submit
returns-in-Submit c s majors net ready foreign =
    let can = rw c.in-Submit.is at c.requires in
    rw c.in-Submit.is (c.submit.ensures s majors (name_at s c.in-Submit.host) net ready (station-at-is ready (at.Host c.in-Submit.host) can.there))

pub returns-in-Tick : goal.returns-in-Tick
returns-in-Tick c s majors net ready foreign = rw c.in-Tick.is (c.tick.ensures s majors net ready)

pub returns-in-Inject : goal.returns-in-Inject
returns-in-Inject c s majors net ready foreign = rw c.in-Inject.is (c.inject.ensures s majors net ready (rw c.in-Inject.is at foreign))

pub returns-in-Arm : goal.returns-in-Arm
returns-in-Arm c s majors net ready foreign =
    rw c.in-Arm.is (arm-named ready (λ dev. IsEntered c.arm.result s majors (Arm dev c.in-Arm.which c.in-Arm.k c.in-Arm.mode) c.args.self.now c.arm.new.self)
    c.in-Arm.shelf c.in-Arm.slot c.in-Arm.k (rw c.in-Arm.is at c.requires) (c.arm.ensures s majors net ready))

pub returns-in-Crash : goal.returns-in-Crash
returns-in-Crash c s majors net ready foreign =
    rw c.in-Crash.is (c.crash.ensures s majors _ net ready (station-at-is ready (at.Shelf c.in-Crash.shelf) (rw c.in-Crash.is at c.requires)))

pub returns-in-Hand : goal.returns-in-Hand
returns-in-Hand c s majors net ready foreign =
    rw c.in-Hand.is (c.hand.ensures s majors _ net ready (station-at-is ready c.in-Hand.to (rw c.in-Hand.is at c.requires)))

pub returns-in-Lose : goal.returns-in-Lose
returns-in-Lose c s majors net ready foreign = rw c.in-Lose.is (c.lose.ensures s majors net ready)
