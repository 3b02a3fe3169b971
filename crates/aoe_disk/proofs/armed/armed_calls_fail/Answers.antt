use Rattle.aoe_disk.proofs.ArmedCalls.{armed_fails}
use Rattle.aoe_disk.proofs.armed.armed_calls_fail.Goals as goal

pub returns : goal.returns
returns c = armed_fails
