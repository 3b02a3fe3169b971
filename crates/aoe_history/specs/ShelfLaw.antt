-- The shelf law in a history: what becomes of each frame, what a crash leaves of the lists, and which device calls fail in a script.
use Rattle.std.specs.Prelude.{ℕ, suc, ◌+◌, ◌/◌, ◌≡◌, Bool, true, false, ◌&&◌, ◌||◌, nat_eq, List, [], ◌∷◌, Option, Some, None, is_none, is_some, if◌then◌else◌, MatchBool}
use Rattle.std.specs.Bool.{OnTrue}
use Rattle.std.specs.Option.{option_map}
use Rattle.aoe_disk.specs.declared.loss.Loss.{Loss}
use Rattle.aoe_lists.specs.Settings.{Settings}
use Rattle.aoe_target.specs.Device.{MayStand}
use Rattle.aoe_target.specs.Law.{Allows}
use Rattle.aoe_target.specs.Receive.{calls_store, edits}
use Rattle.aoe_history.specs.declared.entry.Entry.{Entry}
use Rattle.aoe_history.specs.declared.entry.Entry.TheVariants.{Arrived, Armed, Crashed}
use Rattle.aoe_history.specs.declared.entry.Fate.{Fate}
use Rattle.aoe_history.specs.declared.entry.Fate.TheVariants.{Cut}
use Rattle.aoe_script.specs.declared.event.Which.{Which}
use Rattle.aoe_script.specs.declared.event.Which.TheVariants.{Store, Keep}
use Rattle.aoe_history.specs.Frames.{bytes_of}
use Rattle.aoe_history.specs.Setup.{is_slot, SlotSetup}
use Rattle.aoe_history.specs.Slots.{fate_at, is_struck, state_after, verdict_after}

-- a frame with these bytes comes to a slot, and this becomes of it
abbrev pub KeepsShelfLaw : SlotSetup → List Entry → List ℕ → Fate → Type 0
KeepsShelfLaw slot h f fate = Allows slot.station (state_after slot h) f (verdict_after slot h f) (fate_at fate)

-- a crash leaves a slot's lists as they were, or as a change that failed since would have made them
abbrev pub KeepsLists : SlotSetup → List Entry → Settings → Type 0
KeepsLists slot h lists = MayStand (state_after slot h) lists

-- ARMED DISKS

abbrev pub same_disk : Which → Which → Bool
same_disk Store Store = true
same_disk Keep Keep = true
same_disk a b = false

-- a frame makes the slot call the disk: a change of the lists that of its keep, a command on sectors that of its store
abbrev pub calls : Which → SlotSetup → List Entry → List ℕ → Bool
calls Keep slot h f = edits slot.station (state_after slot h).lists f (verdict_after slot h f)
calls Store slot h f = calls_store (verdict_after slot h f)

-- a disk since it was armed: the number of the call that it was armed for, what a stop is to leave, how many frames made the slot
-- call it, and whether one of them was struck
pub record Stretch : Type 0 where
  pub k : ℕ
  pub mode : Option Loss
  pub frames : ℕ
  pub struck : Bool

abbrev pub one_more : Fate → Stretch → Stretch
one_more fate x = record x { frames = suc x.frames; struck = is_struck fate || x.struck }

-- the disk of a slot, from its arming to its next arming or the next crash
abbrev pub stretch : Which → SlotSetup → List Entry → Option Stretch
stretch which slot [] = None
stretch which slot (Armed dev disk k mode ∷ h) =
    if is_slot slot dev && same_disk which disk then Some (record { k = k; mode = mode; frames = 0; struck = false }) else stretch which slot h
stretch which slot (Crashed dev lists mode ∷ h) = if is_slot slot dev then None else stretch which slot h
stretch which slot (Arrived dev frame fate ∷ h) =
    if is_slot slot dev && calls which slot h (bytes_of h frame) then option_map (one_more fate) (stretch which slot h) else stretch which slot h
stretch which slot (_ ∷ h) = stretch which slot h

-- which frame of the stretch meets the call: a change of the lists makes six calls of the keep, a command on sectors makes one of the store
abbrev pub struck_frame : Which → ℕ → ℕ
struck_frame Keep k = (k + 5) / 6
struck_frame Store k = k

-- a stop loses the power in the call, and otherwise the call fails
abbrev pub IsStrike : Stretch → Fate → Type 0
IsStrike x Cut = is_some x.mode ≡ true
IsStrike x fate = is_none x.mode ≡ true

-- the frame that the disk was armed for is struck, and no other
abbrev pub IsStruckInTurn : Which → Option Stretch → Fate → Type 0
IsStruckInTurn which None fate = is_struck fate ≡ false
IsStruckInTurn which (Some x) fate = (is_struck fate ≡ nat_eq (suc x.frames) (struck_frame which x.k)) × OnTrue (is_struck fate) (IsStrike x fate)

-- of a store with a cache, whose calls of its disk aren't those that it is called with: one frame at most is struck
abbrev pub IsStruckOnce : Option Stretch → Fate → Type 0
IsStruckOnce None fate = is_struck fate ≡ false
IsStruckOnce (Some x) fate = OnTrue (is_struck fate) ((x.struck ≡ false) × IsStrike x fate)

abbrev pub IsStruckBy : Which → SlotSetup → Option Stretch → Fate → Type 0
IsStruckBy Keep slot x fate = IsStruckInTurn Keep x fate
IsStruckBy Store slot x fate = MatchBool (is_none slot.cache) (IsStruckInTurn Store x fate) (IsStruckOnce x fate)

-- device calls fail just where a disk was armed for it
pub record KeepsArming (slot : SlotSetup) (h : List Entry) (f : List ℕ) (fate : Fate) : Type 0 where
  pub store : OnTrue (calls Store slot h f) (IsStruckBy Store slot (stretch Store slot h) fate)
  pub keep : OnTrue (calls Keep slot h f) (IsStruckBy Keep slot (stretch Keep slot h) fate)
