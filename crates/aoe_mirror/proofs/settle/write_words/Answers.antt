use Rattle.std.proofs.Common.{inl, inr, arith, refl}
use Rattle.aoe_mirror.proofs.Settling.{holds_behind, names_behind, safe_before, safe_behind, spares_all, stays_by, stays_idle, stays_on}
use Rattle.aoe_mirror.proofs.settle.write_words.Goals as goal

pub change_names-requires-clause-was : goal.change_names-requires-clause-was
change_names-requires-clause-was g c = names_behind (g.D.Disk.state c.args.disk.now) (g.D.Disk.state c.write_found.new.disk) c.write_found.ensures.touches c.args.was.now.names
    c.requires.names

pub returns-in-Ok-clause-holds : goal.returns-in-Ok-clause-holds
returns-in-Ok-clause-holds g c = holds_behind (g.D.Disk.state c.args.disk.now) (g.D.Disk.state c.write_found.new.disk) c.write_found.ensures.touches c.args.was.now.names
    c.requires.names c.args.was.now.found.is_clean c.args.words.now.found.is_clean c.write_found.ensures.unclean (g.D.Disk.state c.change_names.new.disk)
    c.change_names.ensures.touches c.in-Ok.ensures.says c.args.words.now refl c.in-Ok.ensures.named c.change_names.result
    (g.D.Disk.state c.args.disk.now).sectors c.write_found.ensures.called.later.sectors c.change_names.ensures.names

pub returns-in-Ok-clause-safe : goal.returns-in-Ok-clause-safe
returns-in-Ok-clause-safe g c = safe_behind (g.D.Disk.state c.args.disk.now) (g.D.Disk.state c.write_found.new.disk) c.write_found.ensures.touches c.args.was.now.names
    c.requires.names c.args.was.now.found.is_clean c.args.words.now.found.is_clean c.write_found.ensures.unclean (g.D.Disk.state c.change_names.new.disk)
    c.change_names.ensures.touches c.in-Ok.ensures.says

pub returns-in-Err-clause-safe : goal.returns-in-Err-clause-safe
returns-in-Err-clause-safe g c = safe_before (g.D.Disk.state c.args.disk.now) (g.D.Disk.state c.write_found.new.disk) c.write_found.ensures.touches c.args.was.now.names
    c.requires.names c.args.was.now.found.is_clean c.args.words.now.found.is_clean c.write_found.ensures.unclean

pub returns-in-Ok-clause-spares : goal.returns-in-Ok-clause-spares
returns-in-Ok-clause-spares g c = spares_all c.args.was.now c.args.words.now (g.D.Disk.state c.args.disk.now) (g.D.Disk.state c.change_names.new.disk) (safe_behind (g.D.Disk.state c.args.disk.now) (g.D.Disk.state c.write_found.new.disk) c.write_found.ensures.touches c.args.was.now.names
    c.requires.names c.args.was.now.found.is_clean c.args.words.now.found.is_clean c.write_found.ensures.unclean (g.D.Disk.state c.change_names.new.disk)
    c.change_names.ensures.touches c.in-Ok.ensures.says)
    (λ e. stays_on 0 (g.D.Disk.state c.args.disk.now) (g.D.Disk.state c.write_found.new.disk) (g.D.Disk.state c.change_names.new.disk) (c.write_found.ensures.side_stays e) (stays_by 2 1 0 (inl (omega arith)) (g.D.Disk.state c.write_found.new.disk) (g.D.Disk.state c.change_names.new.disk) c.change_names.ensures.touches))
    (λ e. stays_on 1 (g.D.Disk.state c.args.disk.now) (g.D.Disk.state c.write_found.new.disk) (g.D.Disk.state c.change_names.new.disk) (c.write_found.ensures.clean_stays e) (stays_by 2 1 1 (inl (omega arith)) (g.D.Disk.state c.write_found.new.disk) (g.D.Disk.state c.change_names.new.disk) c.change_names.ensures.touches))
    (λ e. stays_on 2 (g.D.Disk.state c.args.disk.now) (g.D.Disk.state c.write_found.new.disk) (g.D.Disk.state c.change_names.new.disk) (stays_by 0 2 2 (inr (omega arith)) (g.D.Disk.state c.args.disk.now) (g.D.Disk.state c.write_found.new.disk) c.write_found.ensures.touches)
    (stays_idle 2 (g.D.Disk.state c.write_found.new.disk) (g.D.Disk.state c.change_names.new.disk) (c.change_names.ensures.same e)))

pub returns-in-Err-clause-spares : goal.returns-in-Err-clause-spares
returns-in-Err-clause-spares g c = spares_all c.args.was.now c.args.words.now (g.D.Disk.state c.args.disk.now) (g.D.Disk.state c.write_found.new.disk) (safe_before (g.D.Disk.state c.args.disk.now) (g.D.Disk.state c.write_found.new.disk) c.write_found.ensures.touches c.args.was.now.names
    c.requires.names c.args.was.now.found.is_clean c.args.words.now.found.is_clean c.write_found.ensures.unclean)
    c.write_found.ensures.side_stays c.write_found.ensures.clean_stays (λ _. stays_by 0 2 2 (inr (omega arith)) (g.D.Disk.state c.args.disk.now) (g.D.Disk.state c.write_found.new.disk) c.write_found.ensures.touches)
