use Rattle.std.proofs.Common.{List, Option, ap, sym, ◌∙◌}
use Rattle.slab.specs.Slab.{values}
use Rattle.aoe_flight.specs.declared.outstanding.Outstanding.{Outstanding}
use Rattle.aoe_flight.specs.Outstanding.{live}
use Rattle.aoe_flight.proofs.SlotLemmas.{held}
use Rattle.aoe_flight.proofs.ValueLemmas.{dropped-live, live-all}
use Rattle.aoe_flight.proofs.table.Table.forget.Goals as goal

pub over-preserved : goal.over-preserved
over-preserved c =
    let some = c.in-Some.ensures.some in
    let dropped = dropped-live c.args.rest.0 c.args.now.0 c.over.self.slots c.in-Some.slot c.in-Some.command some.0 some.1 in
    let same = ap (λ (l : List (Option Outstanding)). live c.args.rest.0 c.args.now.0 (held l)) c.drop_slot.ensures.slots in
    (same ∙ dropped ∙ c.over.invariant.0, c.drop_slot.ensures.capacity ∙ c.over.invariant.1)

pub returns-clause-values : goal.returns-clause-values
returns-clause-values c = sym (live-all c.args.rest.0 c.args.now.0 (values c.over.self) c.in_default.ensures.none) ∙ c.over.invariant.0
