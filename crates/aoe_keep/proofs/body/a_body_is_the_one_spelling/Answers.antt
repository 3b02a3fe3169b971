use Rattle.aoe_keep.proofs.Reading.{one_spelling}
use Rattle.aoe_keep.proofs.body.a_body_is_the_one_spelling.Goals as goal

pub returns : goal.returns
returns c = one_spelling
