use Rattle.std.proofs.Common.{inl, inr, arith}
use Rattle.aoe_mirror.proofs.Settling.{ok_of, says_beside, side_beside, stays_by, stays_idle, stays_on, unclean_beside, unclean_still}
use Rattle.aoe_mirror.proofs.settle.write_found.Goals as goal

pub change_clean-requires-clause-was : goal.change_clean-requires-clause-was
change_clean-requires-clause-was g c = says_beside (g.D.Disk.state c.args.disk.now) (g.D.Disk.state c.change_side.new.disk) c.change_side.ensures.touches c.args.was.is_clean
    c.requires.says

pub returns-in-Ok-clause-named : goal.returns-in-Ok-clause-named
returns-in-Ok-clause-named g c = ok_of c.change_clean.result (side_beside (g.D.Disk.state c.args.disk.now) (g.D.Disk.state c.change_side.new.disk) c.change_side.ensures.touches
    (g.D.Disk.state c.change_clean.new.disk) c.change_clean.ensures.touches c.args.found.side c.in-Ok.ensures.named)

pub returns-in-Ok-clause-unclean : goal.returns-in-Ok-clause-unclean
returns-in-Ok-clause-unclean g c = unclean_still (g.D.Disk.state c.args.disk.now) (g.D.Disk.state c.change_side.new.disk) c.change_side.ensures.touches
    (g.D.Disk.state c.change_clean.new.disk) c.change_clean.ensures.touches c.args.was.is_clean c.args.found.is_clean c.requires.says c.requires.falls
    c.change_clean.ensures.same

pub returns-in-Err-clause-unclean : goal.returns-in-Err-clause-unclean
returns-in-Err-clause-unclean g c = unclean_beside (g.D.Disk.state c.args.disk.now) (g.D.Disk.state c.change_side.new.disk) c.change_side.ensures.touches c.args.was.is_clean
    c.requires.says

pub returns-in-Ok-clause-side_stays : goal.returns-in-Ok-clause-side_stays
returns-in-Ok-clause-side_stays g c = λ e. stays_on 0 (g.D.Disk.state c.args.disk.now) (g.D.Disk.state c.change_side.new.disk) (g.D.Disk.state c.change_clean.new.disk) (stays_idle 0 (g.D.Disk.state c.args.disk.now) (g.D.Disk.state c.change_side.new.disk) (c.change_side.ensures.same e))
    (stays_by 1 1 0 (inl (omega arith)) (g.D.Disk.state c.change_side.new.disk) (g.D.Disk.state c.change_clean.new.disk) c.change_clean.ensures.touches)

pub returns-in-Ok-clause-clean_stays : goal.returns-in-Ok-clause-clean_stays
returns-in-Ok-clause-clean_stays g c = λ e. stays_on 1 (g.D.Disk.state c.args.disk.now) (g.D.Disk.state c.change_side.new.disk) (g.D.Disk.state c.change_clean.new.disk) (stays_by 0 1 1 (inr (omega arith)) (g.D.Disk.state c.args.disk.now) (g.D.Disk.state c.change_side.new.disk) c.change_side.ensures.touches)
    (stays_idle 1 (g.D.Disk.state c.change_side.new.disk) (g.D.Disk.state c.change_clean.new.disk) (c.change_clean.ensures.same e))

pub returns-in-Err-clause-side_stays : goal.returns-in-Err-clause-side_stays
returns-in-Err-clause-side_stays g c = λ e. stays_idle 0 (g.D.Disk.state c.args.disk.now) (g.D.Disk.state c.change_side.new.disk) (c.change_side.ensures.same e)

pub returns-in-Err-clause-clean_stays : goal.returns-in-Err-clause-clean_stays
returns-in-Err-clause-clean_stays g c = λ _. stays_by 0 1 1 (inr (omega arith)) (g.D.Disk.state c.args.disk.now) (g.D.Disk.state c.change_side.new.disk) c.change_side.ensures.touches
