use Rattle.aoe_history.proofs.worked.Refused.{any-source, early-flush, early-write, repeats-never, sends-nothing, used-tag}
use Rattle.aoe_history.proofs.cases.wrong_hosts.Goals as goal

pub returns : goal.returns
returns c = record {
  flush = early-flush;
  write = early-write;
  tag = used-tag;
  source = any-source;
  silent = sends-nothing;
  repeat = repeats-never;
}
