use Rattle.std.proofs.lemmas.List.{take_rest}
use Rattle.aoe_script.proofs.cuts.from.Goals as goal

pub returns : goal.returns
returns c = take_rest c.args.text.now c.args.at
