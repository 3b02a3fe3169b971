use Rattle.aoe_base.proofs.JoinLemmas.{joined}
use Rattle.aoe_script.specs.Print.{digits_text}
use Rattle.aoe_script.proofs.spelling.put_addresses.Goals as goal

pub macs-preserved : goal.macs-preserved
macs-preserved c =
    joined 44 digits_text c.args.macs.now c.macs.i _ c.args.out.now.items c.macs.out.items c.put_between.new.out.items c.put_bytes.new.out.items
    c.macs-test.true c.macs.invariant c.in_ok-put_between.ensures c.in_ok-put_bytes.ensures
