use Rattle.std.proofs.Common.{◌≡◌, ◌-◌, List, length, false, true}
use Rattle.aoe_block.specs.Steps.{has_ticked, GoesOn}
use Rattle.aoe_copy.specs.Copying.{is_over, Asked, IsFit, Keeps, Setting, Stands}
use Rattle.aoe_copy.specs.Runs.{ReadSeen}
use Rattle.aoe_copy.specs.Steps.{ReadStep}
use Rattle.aoe_copy.specs.Window.{most_open}
use Rattle.aoe_copy.proofs.copying.Copying.ask_all.Given as goal

abbrev pub invariant-commands : goal.invariant-commands
invariant-commands l = record {
  fit : IsFit l.self;
  more : is_over l.self ≡ false;
  waiting : l.self.host.waiting ≡ l.fn.self.host.waiting;
  asked : (c : Setting) (seen : ReadSeen) (steps : List ReadStep) → Stands c seen steps → Keeps c steps l.fn.self → GoesOn steps → has_ticked steps ≡ true
      → Asked c seen steps l.self;
}

abbrev pub decreases-commands : goal.decreases-commands
decreases-commands l = most_open - length l.self.window.slots.items
