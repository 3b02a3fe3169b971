use Rattle.aoe_mirror.proofs.Telling.{change_told}
use Rattle.aoe_mirror.proofs.watch.tell_change.Goals as goal

pub returns : goal.returns
returns g c = change_told c.args.before c.args.after (g.W.MirrorWatch.told c.args.watch.now) (g.W.MirrorWatch.told c.tell_some.new.watch)
    (g.W.MirrorWatch.told c.tell_some-2.new.watch) c.requires.sides.0 c.requires.sides.1 (rw c.new_lead.ensures at c.tell_some.ensures)
    (rw c.new_state.ensures at c.tell_some-2.ensures)
