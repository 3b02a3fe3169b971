use Rattle.std.proofs.Common.{◌≡◌, List, length}
use Rattle.aoe_history.specs.Setup.{Setup, SlotSetup}
use Rattle.aoe_sim_shelves.specs.Arrival.{IsReached}
use Rattle.aoe_sim_shelves.proofs.ArrivalLemmas.{Passes}
use Rattle.aoe_sim_shelves.proofs.Words.{stations}
use Rattle.aoe_sim_shelves.proofs.shelf.SimShelf.arrive.Given as goal

abbrev pub invariant-slots : goal.invariant-slots
invariant-slots l = record {
  passes : (s : Setup) (slots : List SlotSetup) → IsReached s slots l.number.0 l.frame l.initial.run.entries l.initial.self
      → Passes s slots l.slot l.number.0 l.frame l.initial.run.entries l.run.entries l.self;
  life : l.run.life ≡ l.initial.run.life;
  count : length l.self.shelf.targets ≡ length l.initial.self.shelf.targets;
  major : l.self.shelf.major ≡ l.initial.self.shelf.major;
  stations : stations l.self.shelf.targets ≡ stations l.initial.self.shelf.targets;
}
