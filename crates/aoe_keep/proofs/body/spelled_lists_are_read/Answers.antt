use Rattle.aoe_keep.proofs.Spelling.{reads_back, length-spelling}
use Rattle.aoe_keep.proofs.body.spelled_lists_are_read.Goals as goal

pub returns-clause-read : goal.returns-clause-read
returns-clause-read c = reads_back

pub returns-clause-len : goal.returns-clause-len
returns-clause-len c = length-spelling
