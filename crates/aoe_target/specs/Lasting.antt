-- What a write leaves where the writes of a store last.
use Rattle.std.specs.Prelude.{◌≡◌, Bool, true, List, ℕ, Option, IfSome}
use Rattle.aoe_disk.specs.State.{Contents, DiskState}
use Rattle.aoe_store.specs.Lasting.{AreFirm}
use Rattle.aoe_target.specs.declared.heard.Effect.{Effect}
use Rattle.aoe_target.specs.declared.heard.Effect.TheVariants as effect
use Rattle.aoe_target.specs.declared.heard.Heard.{Heard}
use Rattle.aoe_target.specs.Law.{Fate, replied}
use Rattle.aoe_target.specs.Mounted.{Mounted}
use Rattle.aoe_target.specs.Receive.{fate_of}

-- after a write that was done a crash changes none of its sectors
abbrev pub LeavesFirm : Effect → Option Contents → Type 0
LeavesFirm (effect.Wrote span) told = IfSome told (AreFirm span.at span.count)
LeavesFirm e told = Unit {0}

abbrev pub IsFirmAfter : Fate → Option Contents → Type 0
IsFirmAfter (replied e reply) told = LeavesFirm e told
IsFirmAfter fate told = Unit {0}

-- what a frame leaves of the store of a target, where its writes last
abbrev pub TurnsFirm : {S D : Type 0} → Bool → (S → DiskState) → Heard → List ℕ → Mounted S D → Type 0
TurnsFirm lasts store h out after = lasts ≡ true → IsFirmAfter (fate_of h out) (store after.store).contents
