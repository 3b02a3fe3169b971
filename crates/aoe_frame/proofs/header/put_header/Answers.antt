use Rattle.std.proofs.Common.{arith, rules}
use Rattle.aoe_frame.proofs.header.put_header.Goals as goal

pub returns-clause-fits : goal.returns-clause-fits
returns-clause-fits c = record {
  dst = search rules;
  src = search rules;
  version = omega arith;
  flags = c.requires.flags;
  major = omega arith;
  tag = omega arith;
}
