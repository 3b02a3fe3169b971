-- The records of a capture file, as an audit is fed with them; the latest of several stands first.
use Rattle.std.specs.Prelude.{ℕ, ◌+◌, ◌≤◌, Bool, true, false, List, [], ◌∷◌, length, reverse, Option}
use Rattle.aoe_audit.specs.Captured.{AreWhole}
use Rattle.aoe_audit.specs.Captured as audit
use Rattle.aoe_audit.specs.Judged.{IsJudgedSoFar}
use Rattle.aoe_io.specs.Bytes.{Gave}
use Rattle.aoe_lists.specs.Settings.{Settings}
use Rattle.aoe_pcap.specs.Capture.{FileHead, IsCapture, Packet, frame_of, kind}
use Rattle.aoe_pcap.specs.declared.reader.Record.{Record}
use Rattle.aoe_pcap.specs.declared.reader.Record.TheVariants.{Whole, Short, Long, End}
use Rattle.aoe_target.specs.declared.station.Station.{Station}

-- all of its frame was captured
abbrev pub is_whole : Record → Bool
is_whole Whole = true
is_whole Short = false
is_whole (Long captured) = false
is_whole End = false

-- there is none
abbrev pub is_end : Record → Bool
is_end Whole = false
is_end Short = false
is_end (Long captured) = false
is_end End = true

-- how many bytes of it were captured, where it has this frame
abbrev pub captured_of : Record → List ℕ → ℕ
captured_of Whole frame = length frame
captured_of Short frame = length frame
captured_of (Long captured) frame = captured
captured_of End frame = length frame

-- the record of a packet with this number
abbrev pub fed : ℕ → Packet → audit.Packet
fed number p = record { number = number; frame = frame_of p.captured; whole = is_whole (kind (length p.captured) p.original) }

-- the records of packets, which are numbered from 1
abbrev pub heard : List Packet → List audit.Packet
heard [] = []
heard (p ∷ ps) = fed (length ps + 1) p ∷ heard ps

-- how many bytes of packets were captured
abbrev pub captured_bytes : List Packet → ℕ
captured_bytes [] = 0
captured_bytes (p ∷ ps) = captured_bytes ps + length p.captured

-- the most packets that are audited, a limit of this program
abbrev pub most_records : ℕ
most_records = 200000

-- the most bytes that were captured of them together: 512 MiB, a limit of this program
abbrev pub most_captured : ℕ
most_captured = 536870912

-- no more than are audited
pub record IsWithin (ps : List Packet) : Type 0 where
  pub records : length ps ≤ most_records
  pub bytes : captured_bytes ps ≤ most_captured

-- a source gave the header of a file and the records of these packets
pub record HasRead (left left' : Option (List ℕ)) (head : FileHead) (ps : List Packet) : Type 0 where
  pub bytes : List ℕ
  pub capture : IsCapture bytes head (reverse ps)
  pub gave : Gave left left' bytes

-- packets of the wire of a device that had these lists, with no finding
pub record IsClean (station : Station) (lists : Settings) (ps : List Packet) : Type 0 where
  pub within : IsWithin ps
  pub whole : AreWhole station (heard ps)
  pub judged : IsJudgedSoFar station lists (heard ps)
