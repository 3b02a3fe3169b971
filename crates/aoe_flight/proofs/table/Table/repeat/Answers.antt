use Rattle.std.proofs.Common.{refl}
use Rattle.aoe_flight.specs.Outstanding.{after_repeat, change_of, flies_as}
use Rattle.aoe_flight.proofs.ValueLemmas.{changed-all, changed-more}
use Rattle.aoe_flight.proofs.table.Table.repeat.Goals as goal

pub flying-preserved : goal.flying-preserved
flying-preserved c =
    let some = c.in-Some.ensures.some in (
      changed-more c.repeat_slot.new.self (after_repeat c.args.now c.args.path c.args.wait c.in-Some.command) (λ e out. rw out refl) (rw (some.passes) refl)
          c.flying.invariant.0 some c.repeat_slot.ensures,
      c.flying.invariant.1,
    )

pub returns-clause-values : goal.returns-clause-values
returns-clause-values c =
    changed-all (change_of c.args.ticket.0 (after_repeat c.args.now c.args.path c.args.wait))
    (flies_as c.args.ticket.0) c.args.self.now c.flying.self c.flying.from
    (λ e out. rw out refl) c.flying.invariant.0 c.in_default.ensures.none
