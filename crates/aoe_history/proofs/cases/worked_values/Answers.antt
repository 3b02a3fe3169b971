use Rattle.std.proofs.Common.{refl}
use Rattle.aoe_ata.specs.Decision.{decision}
use Rattle.aoe_disk.specs.Loss.{torn}
use Rattle.aoe_initiator.specs.Request.{request}
use Rattle.aoe_target.specs.Reply.{spelled}
use Rattle.aoe_target.specs.Verdict.{verdict}
use Rattle.aoe_history.specs.Example.{full}
use Rattle.aoe_history.specs.Slots.{zero_sector}
use Rattle.aoe_history.proofs.worked.SetupLemmas.{setup-is, two-paths-is}
use Rattle.aoe_history.proofs.cases.worked_values.Goals as goal

pub returns : goal.returns
unfolding full request verdict decision spelled torn zero_sector
returns c = record {
  is_setup = setup-is;
  paths = two-paths-is;
  clock = refl;
  frames = refl;
  known = refl;
  unmarked = refl;
  alone = refl;
  safe = refl;
  allowed = refl;
  late = refl;
  spoiled = refl;
  written = refl;
  unanswered = refl;
  fault = refl;
}
