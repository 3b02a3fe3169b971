use Rattle.std.proofs.Common.{ap, ◌∙◌, None, sym}
use Rattle.aoe_flight.specs.Outstanding.{best, is_expired, lower}
use Rattle.aoe_flight.proofs.SlotLemmas.{entries-held, left}
use Rattle.aoe_flight.proofs.search.lowest_expired.Goals as goal

pub commands-init : goal.commands-init
commands-init c =
    let all = c.into_iter-command-iterator.ensures.into_iter_gives ∙ c.iter-command-items.ensures.rest in
    (tt, tt, ap (best (is_expired c.args.dead.0 c.args.now.0) lower None) (entries-held 0 c.args.commands.now.slots ∙ ap left (sym all)))
