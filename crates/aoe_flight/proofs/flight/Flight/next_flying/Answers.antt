use Rattle.std.proofs.Common.{Some, None, refl}
use Rattle.std.proofs.lemmas.Bool.{and_parts, ltb-true}
use Rattle.aoe_base.proofs.CommonLemmas.{if-none}
use Rattle.slab.specs.Slab.{values}
use Rattle.aoe_flight.specs.Outstanding.{flies_above, lower}
use Rattle.aoe_flight.proofs.LiveLemmas.{first-among, none-among}
use Rattle.aoe_flight.proofs.RecallLemmas.{first-recalled, none-recalled}
use Rattle.aoe_flight.proofs.TimeLemmas.{above-flies}
use Rattle.aoe_flight.proofs.flight.Flight.next_flying.Goals as goal

pub returns-clause-above : goal.returns-clause-above
returns-clause-above g c = ltb-true _ _ (and_parts _ _ c.in_ok-command.ensures.first.passes).1

pub returns-clause-first_sent : goal.returns-clause-first_sent
returns-clause-first_sent g c =
    let test = flies_above c.args.above.0 in
    let command = c.in_ok-command.command.now in
    first-recalled test lower c.args.self.now (λ d is. rw is refl) (Some command.ticket)
    (rw (← c.self.view_is) (first-among test lower c.self.inside.rest.0 c.self.inside.latest.0 (above-flies c.args.above.0)
    (values c.self.inside.commands) (Some command.ticket) (command, refl, c.in_ok-command.ensures.first)))

pub returns-in_err-command-clause-none_sent : goal.returns-in_err-command-clause-none_sent
returns-in_err-command-clause-none_sent g c =
    let test = flies_above c.args.above.0 in
    if-none c.from_residual.result _ (none-recalled test c.args.self.now (λ d is. rw is refl) None
    (rw (← c.self.view_is) (none-among test c.self.inside.rest.0 c.self.inside.latest.0
    (values c.self.inside.commands) None c.in_err-command.ensures.none)))
