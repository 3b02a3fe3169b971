use Rattle.std.proofs.Common.{sym, ap}
use Rattle.aoe_io.specs.Memory.{Reading}
use Rattle.aoe_io.proofs.BytesLemmas.{Gave-piece}
use Rattle.aoe_io.proofs.memory.MemSourceSource.read.Goals as goal

pub returns-clause-gave : goal.returns-clause-gave
returns-clause-gave c =
    Gave-piece c.args.self.now.left c.self.inside.bytes.items c.as_slice.result.now _ c.self.inside.at c.copy_front-n.result
    (sym (ap (λ (r : Reading). r.left) c.self.view_is)) c.as_slice.ensures.value c.copy_front-n.ensures.front
