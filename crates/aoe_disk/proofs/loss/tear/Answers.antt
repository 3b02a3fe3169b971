use Rattle.std.proofs.Common.{◌∙◌, ap, List, ℕ}
use Rattle.std.proofs.lemmas.List.{take_rest}
use Rattle.aoe_disk.specs.State.{with_piece}
use Rattle.aoe_disk.proofs.Losing.{torn-with_piece}
use Rattle.aoe_disk.proofs.loss.tear.Goals as goal

pub returns : goal.returns
returns c = c.write_at.ensures ∙ ap (λ (l : List ℕ). with_piece c.args.now.now 256 l) (take_rest c.args.settled.now 256)
    ∙ torn-with_piece c.args.now.now c.args.settled.now c.requires.now c.requires.settled
