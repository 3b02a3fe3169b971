use Rattle.std.proofs.lemmas.Result.{on_err_weaker}
use Rattle.aoe_keep.proofs.Keeping.{offered_of}
use Rattle.aoe_keep.proofs.keep.Keep.replace.Goals as goal

pub returns-clause-offered : goal.returns-clause-offered
returns-clause-offered g c = rw (← c.self.view_is)
    (on_err_weaker c.replace.result
    (λ i. offered_of (g.D.Disk.state c.self.inside.mounted.disk)
    (g.D.Disk.state c.replace.new.self.disk) c.replace.new.self.place c.replace.new.self.is_closed c.replace.new.self.lists c.self.inside.mounted.lists
    c.args.next.now i.lists i.disk) c.replace.ensures.err)
