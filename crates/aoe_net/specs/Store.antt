-- How the frames of a network are kept.
use Rattle.std.specs.Prelude.{ℕ, ◌≡◌, ◌≤◌, List, length, map, reverse, sum_by}
use Rattle.aoe_net.specs.declared.net.StoredFrame.{StoredFrame}
use Rattle.aoe_net.specs.Network.{most_frame_bytes, most_frames, SentFrame}

abbrev pub frame_of : StoredFrame → SentFrame
frame_of kept = record { bytes = kept.bytes; birth = kept.birth.0 }

-- the frames, the latest first
abbrev pub frames_of : List StoredFrame → List SentFrame
frames_of kept = reverse (map frame_of kept)

-- the frames have so many bytes together, and both are within the limits
pub record IsStore (total : ℕ) (kept : List StoredFrame) : Type 0 where
  pub whole : sum_by (λ k. length k.bytes) kept ≡ total
  pub few : length kept ≤ most_frames
  pub small : total ≤ most_frame_bytes
