use Rattle.aoe_lists.proofs.ChangeLemmas.{same_settings-Decides}
use Rattle.aoe_lists.proofs.lists.same_settings_is_equality.Goals as goal

pub returns : goal.returns
returns c = same_settings-Decides
