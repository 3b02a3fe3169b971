-- What becomes of a frame at a slot, and what it adds to a history.
use Rattle.std.specs.Prelude.{ℕ, ◌≡◌, ◌≢◌, List, ◌∷◌, slice_get, Option, Some, None, if◌then◌else◌}
use Rattle.aoe_disk.specs.declared.loss.Loss.{Loss}
use Rattle.aoe_net.specs.declared.refusal.NetLimit.{NetLimit}
use Rattle.aoe_net.specs.Network.{IsFullBy, Network}
use Rattle.aoe_target.specs.declared.heard.Heard.{Heard}
use Rattle.aoe_target.specs.declared.heard.Heard.TheVariants as heard
use Rattle.aoe_target.specs.Receive.{is_edit_fault, is_fault}
use Rattle.aoe_history.specs.declared.entry.Entry.{Entry}
use Rattle.aoe_history.specs.declared.entry.Entry.TheVariants.{Arrived}
use Rattle.aoe_history.specs.declared.entry.Fate.{Fate}
use Rattle.aoe_history.specs.declared.entry.Fate.TheVariants.{Ignored, Silent, Cut, Replied}
use Rattle.aoe_history.specs.Frames.{arriving}
use Rattle.aoe_history.specs.Groups.{IsStop}
use Rattle.aoe_history.specs.Lawful.{IsLawful}
use Rattle.aoe_history.specs.Setup.{AreSlots, Setup, SlotSetup}
use Rattle.aoe_sim_shelves.specs.declared.shelf.Stops.{Stops}
use Rattle.aoe_sim_shelves.specs.Shelf.{SimShelf, Serves, Stands}

-- what is left of the disks of a shelf of which one failed in a stop
abbrev pub stop_at : Stops → Heard → Option Loss
stop_at stops (heard.Replied e) = if is_fault e then stops.store else if is_edit_fault e then stops.keep else None
stop_at stops h = None

-- what the history has of a frame: the loss of power, or what the target did and its reply
abbrev pub noted : Option Loss → Heard → ℕ → List ℕ → Fate
noted (Some how) h number out = Cut
noted None heard.Ignored number out = Ignored
noted None heard.Silent number out = Silent
noted None (heard.Replied e) number out = Replied e number out

-- the reply is a frame that a network has no room for, by this limit
abbrev pub IsReplyFull : Option Loss → Heard → NetLimit → Network → List ℕ → Type 0
IsReplyFull None (heard.Replied e) limit net out = IsFullBy limit net out
IsReplyFull None heard.Ignored limit net out = ⊥
IsReplyFull None heard.Silent limit net out = ⊥
IsReplyFull (Some how) h limit net out = ⊥

-- a frame that can be handed over comes to a shelf
pub record IsReached (s : Setup) (slots : List SlotSetup) (number : ℕ) (f : List ℕ) (h : List Entry) (x : SimShelf) : Type 0 where
  pub shelf : AreSlots s slots
  pub serves : Serves slots h x
  pub lawful : IsLawful s h
  pub fresh : arriving s.life h number ≡ Some f

-- it came to the slot, and may come to the next one
pub record GoesOn (s : Setup) (slots : List SlotSetup) (i number : ℕ) (f : List ℕ) (h m : List Entry) (x : SimShelf) : Type 0 where
  pub slot : SlotSetup
  pub found : slice_get slots i ≡ Some slot
  pub fate : Fate
  pub uncut : fate ≢ Cut
  pub entry : m ≡ Arrived slot.station.id number fate ∷ h
  pub reached : IsReached s slots number f m x

-- it came to the slot, and made it call a disk in which the power is lost
pub record IsCut (s : Setup) (slots : List SlotSetup) (i number : ℕ) (f : List ℕ) (how : Loss) (h m : List Entry) (x : SimShelf) : Type 0 where
  pub slot : SlotSetup
  pub found : slice_get slots i ≡ Some slot
  pub stop : IsStop slot h f how
  pub entry : m ≡ Arrived slot.station.id number Cut ∷ h
  pub stands : Stands slots m x
  pub lawful : IsLawful s m

-- which of the two it was
abbrev pub ComesToSlot : Setup → List SlotSetup → ℕ → ℕ → List ℕ → Option Loss → List Entry → List Entry → SimShelf → Type 0
ComesToSlot s slots i number f None h m x = GoesOn s slots i number f h m x
ComesToSlot s slots i number f (Some how) h m x = IsCut s slots i number f how h m x
