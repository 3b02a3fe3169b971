use Rattle.std.proofs.Common.{List, ℕ, ◌++◌, ap, refl}
use Rattle.aoe_io.specs.Stream.{framed}
use Rattle.aoe_io.proofs.BytesLemmas.{TookSome-both}
use Rattle.aoe_io.proofs.stream.give_frame.Goals as goal

pub returns-in-Err-give_all-clause-some : goal.returns-in-Err-give_all-clause-some
returns-in-Err-give_all-clause-some g c =
    let frame = c.args.frame.now in
    TookSome-both _ _ _ c.to_be_bytes.result frame frame (framed frame)
    (ap (λ (t : List ℕ). t ++ frame) c.to_be_bytes.ensures) refl c.in-Ok.ensures.all c.in-Err-give_all.ensures.some
