use Rattle.aoe_history.proofs.worked.RefusedPaths.{from-first, from-last, one-path, same-path, slow, steady, unmarked}
use Rattle.aoe_history.proofs.cases.wrong_paths.Goals as goal

pub returns : goal.returns
returns c = record {
  one_path = one-path;
  same_path = same-path;
  unmarked = unmarked;
  trip = from-first;
  last_trip = from-last;
  steady = steady;
  slow = slow;
}
