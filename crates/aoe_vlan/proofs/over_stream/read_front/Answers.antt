use Rattle.std.proofs.Common.{arith, refl, take}
use Rattle.std.proofs.lemmas.List.{length-take-le}
use Rattle.aoe_vlan.proofs.PieceLemmas.{cut-front}
use Rattle.aoe_vlan.proofs.over_stream.read_front.Goals as goal

pub returns-in-Ok-clause-stops : goal.returns-in-Ok-clause-stops
returns-in-Ok-clause-stops g c =
    let out = c.fill_from.new.out in
    let few = c.if-count-lt-FRONT_LEN.true in
    let long = length-take-le c.in-Ok.count out (omega (arith, few, c.fill_from.auto.out)) in
    let ended = c.in-Ok.ensures.short few in (
      refl,
      cut-front c.args.ports _ _ (take c.in-Ok.count out) c.in-Ok.ensures.gave ended (omega (arith, long, c.in-Ok.count-test)) (omega (arith, long, few)),
      (take c.in-Ok.count out, c.in-Ok.ensures.gave),
    )
