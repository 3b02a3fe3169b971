use Rattle.std.proofs.Common.{[], arith}
use Rattle.aoe_target.proofs.PortLemmas.{from_the_only_port}
use Rattle.aoe_target.proofs.station.Station.only_port.Goals as goal

pub returns-in-len1 : goal.returns-in-len1
returns-in-len1 c h = from_the_only_port c.args.self.now c.as_slice.result.now (record { 0 = [] }) h c.as_slice.ensures.value (omega arith)
