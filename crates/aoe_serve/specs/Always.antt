-- What holds behind each frame of a run, where writes last.
use Rattle.std.specs.Prelude.{List, [], ◌∷◌}
use Rattle.aoe_target.specs.Device.{State, Holds}
use Rattle.aoe_target.specs.History.{Met}
use Rattle.aoe_serve.specs.Ending.{Outlives}
use Rattle.aoe_serve.specs.Lasting.{lasting_by}
use Rattle.aoe_serve.specs.Slots.{Meets, Slot}

-- these frames came to a slot: it holds what is known after them, and outlives a loss of power
pub record IsLasting (a b : Slot) (h : List Met) : Type 0 where
  pub holds : (k : State) → Holds a.device k → Holds b.device (lasting_by a.station k h)
  pub outlives : (k : State) → Holds a.device k → Outlives b.device (lasting_by a.station k h)

-- the same behind each of them: before the last of them came the slot was one that held what was known then
abbrev pub AlwaysLasts : Slot → Slot → List Met → Type 0
AlwaysLasts a b [] = IsLasting a b []
AlwaysLasts a b (m ∷ h) = IsLasting a b (m ∷ h) × ((before : Slot) × Meets before b m.frame m.fate × AlwaysLasts a before h)
