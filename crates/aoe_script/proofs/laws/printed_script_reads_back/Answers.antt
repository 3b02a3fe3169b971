use Rattle.aoe_script.proofs.ScriptBack.{script_accepted, script_back}
use Rattle.aoe_script.proofs.laws.printed_script_reads_back.Goals as goal

pub returns-clause-reads : goal.returns-clause-reads
returns-clause-reads c = script_back c.mac_reads_back.ensures c.device_law.ensures

pub returns-clause-accepted : goal.returns-clause-accepted
returns-clause-accepted c = script_accepted c.mac_reads_back.ensures c.device_law.ensures
