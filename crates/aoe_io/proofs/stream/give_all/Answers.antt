use Rattle.std.proofs.Common.{take, drop}
use Rattle.std.proofs.lemmas.List.{take_rest, take-append-drop}
use Rattle.aoe_io.proofs.BytesLemmas.{TookSome-both}
use Rattle.aoe_io.proofs.stream.give_all.Goals as goal

pub returns-in-Err-give_on-clause-some : goal.returns-in-Err-give_on-clause-some
returns-in-Err-give_on-clause-some g c =
    let bytes = c.args.bytes.now in
    TookSome-both _ _ _ (take c.in-Ok.n bytes) (drop c.in-Ok.n bytes) _ bytes (take-append-drop c.in-Ok.n bytes)
    (take_rest bytes c.in-Ok.n) c.in-Ok.ensures.took c.in-Err-give_on.ensures.some
