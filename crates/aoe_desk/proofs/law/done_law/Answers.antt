use Rattle.aoe_desk.proofs.RunLemmas.{done, read_data}
use Rattle.aoe_desk.proofs.law.done_law.Goals as goal

pub returns-clause-done : goal.returns-clause-done
returns-clause-done c r is_open finished well = done r is_open finished well

pub returns-clause-read : goal.returns-clause-read
returns-clause-read c r is_open well reads = read_data r well reads
