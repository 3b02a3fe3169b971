use Rattle.aoe_script.proofs.ScriptBack.{event_back, setup_back}
use Rattle.aoe_script.proofs.laws.printed_line_reads_back.Goals as goal

pub returns-clause-setup : goal.returns-clause-setup
returns-clause-setup c = setup_back c.mac_reads_back.ensures c.device_law.ensures

pub returns-clause-event : goal.returns-clause-event
returns-clause-event c = event_back c.mac_reads_back.ensures c.device_law.ensures
