use Rattle.std.proofs.Common.{rules}
use Rattle.aoe_keep.proofs.Writes.{writes_gate}
use Rattle.aoe_keep.proofs.Others.{gate_others}
use Rattle.aoe_keep.proofs.mounted.write_gate.Goals as goal

pub returns-clause-gate : goal.returns-clause-gate
returns-clause-gate g c = writes_gate c.from.result c.args.slot c.from.ensures c.requires.slot c.gate_of-gate.result c.write.result
    (g.D.Disk.state c.args.disk.now) (g.D.Disk.state c.write.new.self) c.requires.room c.args.opens (search rules) c.gate_of-gate.ensures.first c.write.ensures

pub returns-clause-others : goal.returns-clause-others
returns-clause-others g c = gate_others _ c.args.slot c.args.opens c.write.result (g.D.Disk.state c.args.disk.now)
    (g.D.Disk.state c.write.new.self) c.requires.slot
    (writes_gate c.from.result c.args.slot c.from.ensures c.requires.slot c.gate_of-gate.result c.write.result (g.D.Disk.state c.args.disk.now)
    (g.D.Disk.state c.write.new.self) c.requires.room c.args.opens (search rules) c.gate_of-gate.ensures.first c.write.ensures)

pub returns-clause-log : goal.returns-clause-log
returns-clause-log g c =
    rw (c.gate_of-gate.ensures.bytes, c.from.ensures) at c.write.ensures.log
