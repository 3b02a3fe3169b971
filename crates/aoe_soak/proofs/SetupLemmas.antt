-- Nothing is wrong with the setup lines.
use Rattle.std.proofs.Common.{suc, refl}
use Rattle.aoe_script.specs.Classes.{is_name}
use Rattle.aoe_script.specs.Lines.{AreGood}
use Rattle.aoe_script.specs.Rules.{are_ports, setup_why}
use Rattle.aoe_soak.specs.Soak.{stations}

pub are-good : AreGood stations
unfolding are_ports is_name setup_why
are-good (suc (suc (suc (suc (suc (suc (suc k))))))) = tt
are-good _ = refl
