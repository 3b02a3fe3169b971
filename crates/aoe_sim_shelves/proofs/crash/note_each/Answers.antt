use Rattle.aoe_sim_shelves.proofs.HistoryLemmas.{crash_noted}
use Rattle.aoe_sim_shelves.proofs.crash.note_each.Goals as goal

pub slots-preserved : goal.slots-preserved
slots-preserved c = crash_noted _ _ c.slots.slot _ _ _ c.slots.invariant c.in_ok-note.ensures.ok
