use Rattle.std.specs.Int.{w16, to_be_bytes}
use Rattle.aoe_io.proofs.BytesLemmas.{GaveSome-then}
use Rattle.aoe_io.proofs.stream.next_frame.Goals as goal

pub returns-in-Ok-false-clause-taken : goal.returns-in-Ok-false-clause-taken
returns-in-Ok-false-clause-taken g c =
    let gave = rw c.in-Ok-Some.field-0-is at c.in-Ok-Some.ensures.gave in
    GaveSome-then _ _ _ (to_be_bytes w16 c.in-Ok-Some.length) gave c.fill_frame.ensures.taken

pub returns-in-Err-fill_frame-clause-taken : goal.returns-in-Err-fill_frame-clause-taken
returns-in-Err-fill_frame-clause-taken g c =
    let gave = rw c.in-Ok-Some.field-0-is at c.in-Ok-Some.ensures.gave in
    GaveSome-then _ _ _ (to_be_bytes w16 c.in-Ok-Some.length) gave c.fill_frame.ensures.taken
