use Rattle.aoe_io.proofs.LinkLemmas.{turned-by}
use Rattle.aoe_io.specs.Link.{came}
use Rattle.aoe_block.proofs.HearLemmas.{hears-answer, hears-stale}
use Rattle.aoe_block.proofs.link.hear.Goals as goal

pub returns-in-Finished-clause-one : goal.returns-in-Finished-clause-one
returns-in-Finished-clause-one g c =
    let frame = c.recv.new.out.items in
    let turned =
    turned-by _ _ _ _ (came frame) (rw c.in-Ok-Frame.field-0-is at c.in-Ok-Frame.ensures.gave) c.in-Ok-Frame.ensures.passing c.in-Ok-Frame.ensures.turns in
    hears-answer frame turned c.in-Finished.ensures.same c.in-Finished.ensures.no_tag (rw c.as_slice.ensures.value at c.in-Finished.ensures.taken)

pub returns-in-Stale-clause-one : goal.returns-in-Stale-clause-one
returns-in-Stale-clause-one g c =
    let frame = c.recv.new.out.items in
    let turned =
    turned-by _ _ _ _ (came frame) (rw c.in-Ok-Frame.field-0-is at c.in-Ok-Frame.ensures.gave) c.in-Ok-Frame.ensures.passing c.in-Ok-Frame.ensures.turns in
    hears-stale frame turned c.in-Stale.ensures.same c.in-Stale.ensures.no_tag (rw c.as_slice.ensures.value at c.in-Stale.ensures.taken)
