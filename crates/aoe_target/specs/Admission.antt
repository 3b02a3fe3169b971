-- Whom the lists of a target let in.
use Rattle.aoe_lists.specs.Settings.{LetInTheSame, Settings}
use Rattle.aoe_target.specs.declared.admission.Admission.{Admission}

-- it lets in the stations that the lists let in
pub record AdmitsAs (admission : Admission) (lists : Settings) : Type 0 where
  pub masks : LetInTheSame admission.masks lists.masks
  pub reserves : LetInTheSame admission.reserves lists.reserves
