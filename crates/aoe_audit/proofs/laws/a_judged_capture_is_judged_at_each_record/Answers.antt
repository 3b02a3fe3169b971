use Rattle.aoe_audit.proofs.Parts.{so-far}
use Rattle.aoe_audit.proofs.laws.a_judged_capture_is_judged_at_each_record.Goals as goal

pub returns : goal.returns
returns c = λ station lists more part judged. so-far station lists more part judged.0 judged.1
