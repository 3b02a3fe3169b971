-- The arrivals of a run: the frames that came to a shelf, each with what became of it at each slot, the latest first.
use Rattle.std.specs.Prelude.{ℕ, ◌≡◌, List, [], ◌∷◌, ◌++◌, All, length, get_or, true, false}
use Rattle.std.specs.List.{flat_map}
use Rattle.aoe_target.specs.History.{Met, is_cut}
use Rattle.aoe_target.specs.Law.{Fate, ignored, replied}
use Rattle.aoe_serve.specs.Always.{AlwaysLasts}
use Rattle.aoe_serve.specs.Slots.{EachSlot, IsFrameLong, IsServed, Meets, Slot}

-- a frame, and what became of it at the slots in their order
pub record Arrived : Type 0 where
  pub frame : List ℕ
  pub fates : List Fate

abbrev pub fate_at : ℕ → List Fate → Fate
fate_at i fates = get_or fates i ignored

-- what became of the frames at slot i
abbrev pub at_slot : ℕ → List Arrived → List Met
at_slot i [] = []
at_slot i (a ∷ h) = record { frame = a.frame; fate = fate_at i a.fates } ∷ at_slot i h

-- the frames that came, in the order of their coming
abbrev pub frames : List Arrived → List (List ℕ)
frames [] = []
frames (a ∷ h) = frames h ++ a.frame ∷ []

-- the reply, where there is one
abbrev pub reply_of : Fate → List (List ℕ)
reply_of (replied e reply) = reply ∷ []
reply_of fate = []

-- the replies to one frame, and to all, in the order of their giving
abbrev pub replies_of : List Fate → List (List ℕ)
replies_of fates = flat_map reply_of fates

abbrev pub replies : List Arrived → List (List ℕ)
replies [] = []
replies (a ∷ h) = replies h ++ replies_of a.fates

-- of n slots each got each frame once, the power held, and no reply is longer than a frame
abbrev pub IsRound : ℕ → List Fate → Type 0
IsRound n fates = (length fates ≡ n) × All (λ fate. is_cut fate ≡ false) fates × All IsFrameLong fates

abbrev pub AreRounds : ℕ → List Arrived → Type 0
AreRounds n [] = Unit {0}
AreRounds n (a ∷ h) = IsRound n a.fates × AreRounds n h

-- a frame came to each slot of a shelf
pub record MeetAll (old new : List Slot) (frame : List ℕ) (fates : List Fate) : Type 0 where
  pub round : IsRound (length old) fates
  pub slots : EachSlot (λ i a b. Meets a b frame (fate_at i fates)) old new

-- these frames came to each slot of a shelf; where the writes of a slot last, it held what was known behind each of them
pub record AreServed (old new : List Slot) (arrivals : List Arrived) : Type 0 where
  pub rounds : AreRounds (length old) arrivals
  pub slots : EachSlot (λ i a b. IsServed a b (at_slot i arrivals)) old new
  pub lasting : EachSlot (λ i a b. a.lasts ≡ true → AlwaysLasts a b (at_slot i arrivals)) old new
