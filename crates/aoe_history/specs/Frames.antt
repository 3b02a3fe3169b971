-- The time of a history, and the frames that are in the network.
use Rattle.std.specs.Prelude.{ℕ, suc, ◌+◌, List, [], ◌∷◌, length, Option}
use Rattle.std.specs.Option.{option_map_or}
use Rattle.aoe_base.specs.declared.counted.Lifetimes.{Lifetimes}
use Rattle.aoe_net.specs.Network.{deliverable, numbered, Network, SentFrame}
use Rattle.aoe_history.specs.declared.entry.Entry.{Entry}
use Rattle.aoe_history.specs.declared.entry.Entry.TheVariants.{Sent, Injected, Arrived, Ticked}
use Rattle.aoe_history.specs.declared.entry.Fate.TheVariants.{Replied}

-- the time: the sum of all that went by
abbrev pub clock : List Entry → ℕ
clock [] = 0
clock (Ticked ms ∷ h) = clock h + ms
clock (_ ∷ h) = clock h

-- the frames, the latest first: of hosts, of shelves, and those that came from elsewhere
abbrev pub frames : List Entry → List SentFrame
frames [] = []
frames (Sent host ticket number bytes ∷ h) = record { bytes = bytes; birth = clock h } ∷ frames h
frames (Injected number bytes ∷ h) = record { bytes = bytes; birth = clock h } ∷ frames h
frames (Arrived dev frame (Replied effect number bytes) ∷ h) = record { bytes = bytes; birth = clock h } ∷ frames h
frames (_ ∷ h) = frames h

-- the number of the next frame
abbrev pub next_number : List Entry → ℕ
next_number h = suc (length (frames h))

-- the network that has the frames
abbrev pub network : Lifetimes → List Entry → Network
network life h = record { life = life; latest = clock h; sent = frames h }

-- the bytes of a frame while it can be handed over
abbrev pub arriving : Lifetimes → List Entry → ℕ → Option (List ℕ)
arriving life h number = deliverable (network life h) number (clock h)

-- the bytes of the frame with a number; none where there is no such frame
abbrev pub bytes_of : List Entry → ℕ → List ℕ
bytes_of h number = option_map_or (λ frame. frame.bytes) (numbered (frames h) number) []
