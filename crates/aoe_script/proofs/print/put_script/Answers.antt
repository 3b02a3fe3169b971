use Rattle.aoe_script.specs.Print.{event_words, setup_words}
use Rattle.aoe_script.proofs.JoinLemmas.{one_line}
use Rattle.aoe_script.proofs.print.put_script.Goals as goal

pub setups-preserved : goal.setups-preserved
setups-preserved c =
    one_line setup_words c.args.script.now.setups c.setups.i c.setup.result.now _ c.setups.out.items c.put_setup.new.out.items c.put.new.out.items
    c.setup.ensures.setup c.setups.invariant c.in_ok-put_setup.ensures c.in_ok-put.ensures

pub events-preserved : goal.events-preserved
events-preserved c =
    one_line event_words c.args.script.now.events c.events.i c.event.result.now _ c.events.out.items c.put_event.new.out.items c.put-in-events.new.out.items
    c.event.ensures.event c.events.invariant c.in_ok-put_event.ensures c.in_ok-put-2.ensures
