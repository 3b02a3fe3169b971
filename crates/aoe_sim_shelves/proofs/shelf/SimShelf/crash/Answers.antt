use Rattle.std.proofs.Common.{length, refl, ap, ◌∙◌}
use Rattle.std.proofs.lemmas.List.{length-replicate}
use Rattle.aoe_history.specs.Run.{Recorded}
use Rattle.aoe_sim_shelves.specs.Shelf.{SimShelf}
use Rattle.aoe_sim_shelves.proofs.FrontLemmas.{restart_targets, same_stations}
use Rattle.aoe_sim_shelves.proofs.HistoryLemmas.{all_noted, some_noted}
use Rattle.aoe_sim_shelves.proofs.shelf.SimShelf.crash.Goals as goal
use Rattle.aoe_history.proofs.LogicLemmas.{on-err, on-ok}

pub invariant_of-self : goal.invariant_of-self
invariant_of-self c = record {
  number = rw c.restart.ensures.rest c.self.invariant.number;
  count = ap length c.no_stops-self-inside.ensures ∙ length-replicate c.count.result _ ∙ c.count.ensures.count;
  targets = rw c.restart.ensures.rest (restart_targets c.self.invariant.targets c.restart.ensures.restarts);
}

pub returns-clause-ok : goal.returns-clause-ok
returns-clause-ok c = on-ok c.note_each.result c.note_each.ensures.ok (λ e s slots are k lawful.
    let y : SimShelf = record { shelf = c.restart.new.shelf; stops = c.no_stops-self-inside.result.items } in
    all_noted are (rw (← c.self.view_is) at k) lawful c.restart.ensures.restarts y c.count.result _ refl c.no_stops-self-inside.ensures
    (ap length c.no_stops-self-inside.ensures ∙ length-replicate c.count.result _ ∙ c.count.ensures.count)
    (ap (λ (r : Recorded). r.entries) e))

pub returns-clause-err : goal.returns-clause-err
returns-clause-err c = on-err c.note_each.result c.note_each.ensures.err (λ e s slots are k lawful.
    some_noted are (rw (← c.self.view_is) at k) lawful c.restart.ensures.restarts e.0 _ (ap (λ (r : Recorded). r.entries) e.1))

pub returns-clause-stations : goal.returns-clause-stations
returns-clause-stations c = rw (← c.self.view_is) (same_stations _ _ c.restart.ensures.restarts)
