-- What is told of a mirror while it runs.
use Rattle.std.specs.Prelude.{◌≡◌, ◌-◌, ◌==◌, ◌&&◌, ℕ, Bool, true, false, List, [], ◌∷◌, ◌++◌, Option, None, Some, if◌then◌else◌}
use Rattle.aoe_disk.specs.State.{BothTell}
use Rattle.aoe_mirror.specs.Marks.{count_of}
use Rattle.aoe_mirror.specs.Sides.{Pair}
use Rattle.aoe_mirror.specs.declared.watch.MirrorEvent.{MirrorEvent}
use Rattle.aoe_mirror.specs.declared.watch.MirrorEvent.TheVariants.{Behind, Leads, Whole}
use Rattle.aoe_mirror.specs.declared.watch.Standing.{Standing}

-- these events more, the latest first
abbrev pub Hears : List MirrorEvent → Option (List MirrorEvent) → Option (List MirrorEvent) → Type 0
Hears events old new = BothTell (λ before after. after ≡ events ++ before) old new

-- how a mirror stands
abbrev pub standing_of : Pair → Standing
standing_of p = record { lead = p.side; is_whole = count_of p.stale == 0 }

-- What changed: a side leads in the place of the other, which has old sectors then; or the side that follows has old sectors and had none,
-- or has all of them again. None of them is told where it was so before.
abbrev pub IsChange : MirrorEvent → Standing → Standing → Type 0
IsChange (Leads side) a b = (a.lead ≡ 1 - side) × (b ≡ record { lead = side; is_whole = false })
IsChange (Behind side) a b = (a ≡ record { lead = 1 - side; is_whole = true }) × (b ≡ record { lead = 1 - side; is_whole = false })
IsChange (Whole side) a b = (a ≡ record { lead = 1 - side; is_whole = false }) × (b ≡ record { lead = 1 - side; is_whole = true })

-- these events, the latest first, lead from one standing to another
abbrev pub AreChanges : List MirrorEvent → Standing → Standing → Type 0
AreChanges [] a b = b ≡ a
AreChanges (event ∷ events) a b = (m : Standing) × AreChanges events a m × IsChange event m b

-- the change of the lead, and the change of the side that follows
abbrev pub new_lead : Standing → Standing → Option MirrorEvent
new_lead a b = if a.lead == b.lead then None else Some (Leads b.lead)

abbrev pub state_event : ℕ → Bool → Bool → Option MirrorEvent
state_event lead true false = Some (Behind (1 - lead))
state_event lead false true = Some (Whole (1 - lead))
state_event lead true true = None
state_event lead false false = None

abbrev pub new_state : Standing → Standing → Option MirrorEvent
new_state a b = state_event b.lead (a.is_whole && a.lead == b.lead) b.is_whole

-- just what led from one standing to another was told
abbrev pub TellsChanges : Standing → Standing → Option (List MirrorEvent) → Option (List MirrorEvent) → Type 0
TellsChanges a b old new = BothTell (λ before after. (events : List MirrorEvent) × (after ≡ events ++ before) × AreChanges events a b) old new
