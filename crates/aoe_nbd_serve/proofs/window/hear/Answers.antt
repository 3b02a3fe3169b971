use Rattle.std.proofs.Common.{refl}
use Rattle.aoe_block.proofs.HostLemmas.{same-self}
use Rattle.aoe_io.proofs.LinkLemmas.{turned-by}
use Rattle.aoe_io.specs.Link.{came, ended, quiet}
use Rattle.aoe_nbd_serve.proofs.WindowLemmas.{heard-frame, hears-ended, hears-quiet}
use Rattle.aoe_nbd_serve.proofs.window.hear.Goals as goal

pub returns-in-Ok-Frame-clause-turn : goal.returns-in-Ok-Frame-clause-turn
returns-in-Ok-Frame-clause-turn g c =
    let turned =
    turned-by _ _ _ _ (came c.recv.new.out.items) (rw c.in-Ok-Frame.field-0-is at c.in-Ok-Frame.ensures.gave) c.in-Ok-Frame.ensures.passing c.in-Ok-Frame.ensures.turns in
    heard-frame c.recv.new.out.items turned c.receive.ensures.same c.receive.ensures.no_tag c.receive.result (rw c.as_slice.ensures.value at c.receive.ensures.taken)

pub returns-in-Ok-Quiet-clause-turn : goal.returns-in-Ok-Quiet-clause-turn
returns-in-Ok-Quiet-clause-turn g c =
    let turned = turned-by _ _ _ _ quiet (rw c.in-Ok-Quiet.field-0-is at c.in-Ok-Quiet.ensures.gave) c.in-Ok-Quiet.ensures.passing c.in-Ok-Quiet.ensures.turns in
    record { finished = _; one = hears-quiet turned; is = λ e. absurd cc }

pub returns-in-Ok-Ended-clause-turn : goal.returns-in-Ok-Ended-clause-turn
returns-in-Ok-Ended-clause-turn g c =
    let turned = turned-by _ _ _ _ ended (rw c.in-Ok-Ended.field-0-is at c.in-Ok-Ended.ensures.gave) c.in-Ok-Ended.ensures.passing c.in-Ok-Ended.ensures.turns in
    hears-ended turned

pub returns-in-Ok-Frame-clause-held : goal.returns-in-Ok-Frame-clause-held
returns-in-Ok-Frame-clause-held g c = record { same = c.receive.ensures.same.0; last = c.receive.ensures.same.2 }

pub returns-in-Ok-Quiet-clause-held : goal.returns-in-Ok-Quiet-clause-held
returns-in-Ok-Quiet-clause-held g c = record { same = same-self _; last = refl }

pub returns-in-Ok-Ended-clause-held : goal.returns-in-Ok-Ended-clause-held
returns-in-Ok-Ended-clause-held g c = record { same = same-self _; last = refl }

pub returns-in-Err-clause-held : goal.returns-in-Err-clause-held
returns-in-Err-clause-held g c = record { same = same-self _; last = refl }
