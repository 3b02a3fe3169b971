use Rattle.aoe_tools.specs.Text.{stat_line}
use Rattle.aoe_tools.proofs.JoinLemmas.{one_more}
use Rattle.aoe_tools.proofs.text.print_stat.Goals as goal

pub devices-preserved : goal.devices-preserved
devices-preserved c =
    one_more (stat_line c.args.sectors) c.args.found.now c.devices.i c.device.result.now c.devices.out.items c.put_stat_line.new.out.items c.device.ensures
    c.devices.invariant c.in_ok-put_stat_line.ensures
