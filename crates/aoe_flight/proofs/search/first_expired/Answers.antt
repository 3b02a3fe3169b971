use Rattle.std.proofs.Common.{◌≡◌, None, rules, sym, ◌∙◌}
use Rattle.slab.specs.Slab.{values}
use Rattle.aoe_flight.specs.Outstanding.{is_expired, lower}
use Rattle.aoe_flight.proofs.FirstLemmas.{best-some}
use Rattle.aoe_flight.proofs.TableLemmas.{all-passing, expired-all, expired-flying}
use Rattle.aoe_flight.proofs.ValueLemmas.{best-nothing}
use Rattle.aoe_flight.proofs.search.first_expired.Goals as goal

pub returns-in_err-oldest-clause-value : goal.returns-in_err-oldest-clause-value
returns-in_err-oldest-clause-value g c =
    let none : c.from_residual.result ≡ None = search rules in
    let expired = is_expired c.args.dead.0 c.args.now.0 in
    none ∙ sym (best-nothing expired lower _ (all-passing _ expired (expired-flying c.args.dead.0 c.args.now.0) c.in_err-oldest.ensures.none))

pub returns-then-not-is_expired-clause-value : goal.returns-then-not-is_expired-clause-value
returns-then-not-is_expired-clause-value g c =
    sym (best-nothing (is_expired c.args.dead.0 c.args.now.0) lower _
    (expired-all c.args.dead.0 c.args.now.0 c.in_ok-oldest.oldest.now (sym c.is_expired.ensures ∙ c.if-not-is_expired.true) c.in_ok-oldest.ensures.first))

pub returns-clause-one : goal.returns-clause-one
returns-clause-one g c =
    best-some _ (is_expired c.args.dead.0 c.args.now.0) lower (values c.args.commands.now) c.in_ok-oldest.oldest.now c.lowest_expired.result
    c.in_ok-oldest.ensures.first.there (sym c.is_expired.ensures ∙ c.if-not-is_expired.false) (rw c.look_all.ensures.value at c.lowest_expired.ensures)
