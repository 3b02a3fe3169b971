use Rattle.aoe_history.proofs.worked.Refused.{dropped, expired}
use Rattle.aoe_history.proofs.cases.wrong_networks.Goals as goal

pub returns : goal.returns
returns c = record {
  expired = expired;
  dropped = dropped;
}
