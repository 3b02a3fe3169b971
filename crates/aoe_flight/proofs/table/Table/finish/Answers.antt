use Rattle.std.proofs.Common.{refl}
use Rattle.aoe_flight.specs.Outstanding.{after_finish, change_of, flies_as}
use Rattle.aoe_flight.proofs.ValueLemmas.{changed-all, changed-more}
use Rattle.aoe_flight.proofs.table.Table.finish.Goals as goal

pub flying-preserved : goal.flying-preserved
flying-preserved c =
    let some = c.in-Some.ensures.some in (
      changed-more c.finish_slot.new.self (after_finish c.in-Some.command) (λ e out. rw out refl) (rw (some.passes) refl)
          c.flying.invariant.0 some c.finish_slot.ensures,
      c.flying.invariant.1,
    )

pub returns-clause-values : goal.returns-clause-values
returns-clause-values c =
    changed-all (change_of c.args.ticket.0 after_finish) (flies_as c.args.ticket.0) c.args.self.now c.flying.self c.flying.from
    (λ e out. rw out refl) c.flying.invariant.0 c.in_default.ensures.none
