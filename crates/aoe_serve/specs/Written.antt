-- What a run over a stream of frames writes: the stream of the replies, or a capture file of the frames and their replies.
use Rattle.std.specs.Prelude.{ℕ, List, [], ◌∷◌, ◌++◌, false}
use Rattle.std.specs.List.{flat_map}
use Rattle.aoe_io.specs.Stream.{stream}
use Rattle.aoe_pcap.specs.Capture.{head_bytes, packet_bytes, packet_of, written_head}
use Rattle.aoe_serve.specs.Arrivals.{Arrived, replies, replies_of}
use Rattle.aoe_serve.specs.declared.over_stream.Format.{Format}
use Rattle.aoe_serve.specs.declared.over_stream.Format.TheVariants.{Replies, Capture}

-- the record of a frame in a capture file, all of which was captured (draft-ietf-opsawg-pcap, section 5)
abbrev pub recorded : List ℕ → List ℕ
recorded frame = packet_bytes false (packet_of frame)

-- each frame that came, and behind it the replies to it
abbrev pub exchanges : List Arrived → List (List ℕ)
exchanges [] = []
exchanges (a ∷ h) = exchanges h ++ a.frame ∷ replies_of a.fates

-- what a run writes of what arrived
abbrev pub written : Format → List Arrived → List ℕ
written Replies h = stream (replies h)
written Capture h = head_bytes written_head ++ flat_map recorded (exchanges h)

-- frames as they are written
abbrev pub pieces : Format → List (List ℕ) → List ℕ
pieces Replies frames = stream frames
pieces Capture frames = flat_map recorded frames

-- what is written of a frame that came, in front of the replies to it
abbrev pub noted : Format → List ℕ → List (List ℕ)
noted Replies frame = []
noted Capture frame = frame ∷ []

-- what is written of one round: a frame and the replies to it
abbrev pub written_of : Format → List ℕ → List (List ℕ) → List ℕ
written_of format frame given = pieces format (noted format frame ++ given)
