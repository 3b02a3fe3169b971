-- A run as contracts see it.
use Rattle.std.specs.Prelude.{All, length, sum_by, ℕ, ◌≡◌, ◌≤◌, Bool, true, false, List, ◌∷◌}
use Rattle.aoe_base.specs.declared.counted.Lifetimes.{Lifetimes}
use Rattle.aoe_base.specs.Sizes.{longest_frame}
use Rattle.aoe_net.specs.declared.refusal.NetLimit.{NetLimit}
use Rattle.aoe_net.specs.Network.{most_frame_bytes, most_frames, IsFullBy, Network, SentFrame}
use Rattle.aoe_history.specs.declared.entry.Entry.{Entry}
use Rattle.aoe_history.specs.declared.entry.Entry.TheVariants.{Sent, Injected, Arrived, Ticked}
use Rattle.aoe_history.specs.declared.entry.Fate.TheVariants.{Replied}
use Rattle.aoe_history.specs.Frames.{clock, frames, network}
use Rattle.aoe_history.specs.Lawful.{MayCome}
use Rattle.aoe_history.specs.Setup.{Setup}

-- how long frames can be handed over after their sending, and what happened, the latest first
pub record Recorded : Type 0 where
  pub life : Lifetimes
  pub entries : List Entry

-- one thing more happened
abbrev pub with_entry : Recorded → Entry → Recorded
with_entry run entry = record run { entries = entry ∷ run.entries }

-- no frame came of it, and no time went by
abbrev pub is_plain : Entry → Bool
is_plain (Sent host ticket number bytes) = false
is_plain (Injected number bytes) = false
is_plain (Arrived dev frame (Replied effect number bytes)) = false
is_plain (Ticked ms) = false
is_plain entry = true

-- the network in which the frames of a run are
abbrev pub network_of : Recorded → Network
network_of run = network run.life run.entries

-- a frame has a length that a network takes
abbrev pub IsShort : SentFrame → Type 0
IsShort frame = length frame.bytes ≤ longest_frame

-- no more frames, and no more bytes of them, than a network has room for
pub record IsWithin (frames : List SentFrame) : Type 0 where
  pub few : length frames ≤ most_frames
  pub small : sum_by (λ frame. length frame.bytes) frames ≤ most_frame_bytes

-- a network has the frames of a history, none of them from a later time or too long
pub record Carries (life : Lifetimes) (now : ℕ) (h : List Entry) (net : Network) : Type 0 where
  pub life_is : net.life ≡ life
  pub sent : net.sent ≡ frames h
  pub past : net.latest ≤ now
  pub short : All IsShort net.sent
  pub time : now ≡ clock h
  pub within : IsWithin net.sent

-- No room: what has begun goes on by an entry that may come, and of which a frame comes that the network has no room for, by this limit.
-- What has begun tells which entries are called for, so an entry of another act is no reason.
pub record MeetsFull (s : Setup) (begins : List Entry → Type 0) (limit : NetLimit) (h : List Entry) : Type 0 where
  pub entry : Entry
  pub called_for : begins (entry ∷ h)
  pub may_come : MayCome s h entry
  pub bytes : List ℕ
  pub brings : frames (entry ∷ h) ≡ record { bytes = bytes; birth = clock h } ∷ frames h
  pub full : IsFullBy limit (network s.life h) bytes
