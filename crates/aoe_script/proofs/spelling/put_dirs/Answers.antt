use Rattle.aoe_script.specs.Print.{dir_text}
use Rattle.aoe_base.proofs.JoinLemmas.{joined}
use Rattle.aoe_script.proofs.spelling.put_dirs.Goals as goal

pub dirs-preserved : goal.dirs-preserved
dirs-preserved c =
    joined 44 dir_text c.args.dirs.now c.dirs.i _ c.args.out.now.items c.dirs.out.items c.put_between.new.out.items c.put_dir.new.out.items c.dirs-test.true
    c.dirs.invariant c.in_ok-put_between.ensures c.in_ok-put_dir.ensures
