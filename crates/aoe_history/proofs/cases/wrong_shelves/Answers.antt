use Rattle.aoe_history.proofs.worked.Refused.{fails-early, fails-never, held-back, lost-lists, no-sync, not-kept-out, not-masked, written-through}
use Rattle.aoe_history.proofs.cases.wrong_shelves.Goals as goal

pub returns : goal.returns
returns c = record {
  flush = no-sync;
  reserves = not-kept-out;
  masks = not-masked;
  lists = lost-lists;
  early = fails-early;
  never = fails-never;
  cached = written-through;
  stored = held-back;
}
