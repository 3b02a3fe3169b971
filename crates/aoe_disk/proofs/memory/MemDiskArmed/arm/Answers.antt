use Rattle.aoe_disk.specs.declared.armed.Arm.TheVariants.{Fail, Stop}
use Rattle.aoe_disk.proofs.MemoryCalls.{memory_armed}
use Rattle.aoe_disk.proofs.memory.MemDiskArmed.arm.Goals as goal

pub returns-in-Fail-clause-arms : goal.returns-in-Fail-clause-arms
returns-in-Fail-clause-arms c = rw (c.fail_at.ensures, c.in-Fail.is) (memory_armed c.args.self.now (Fail c.in-Fail.k))

pub returns-in-Stop-clause-arms : goal.returns-in-Stop-clause-arms
returns-in-Stop-clause-arms c = rw (c.stop_at.ensures, c.in-Stop.is) (memory_armed c.args.self.now (Stop c.in-Stop.k))
