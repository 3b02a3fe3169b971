-- Classic capture files (draft-ietf-opsawg-pcap, sections 4 and 5; pcap-savefile(5) of libpcap).
use Rattle.std.specs.Prelude.{ℕ, ◌+◌, ◌^◌, ◌<◌, ◌≤◌, ◌≡◌, ◌≢◌, ◌⊎◌, Bool, false, List, [], ◌++◌, length, nat_lt, slice_range, All, Option, if◌then◌else◌}
use Rattle.std.specs.List.{flat_map}
use Rattle.std.specs.Int.{w16, w32, to_be_bytes, to_le_bytes, from_be_bytes, from_le_bytes}
use Rattle.aoe_base.specs.Sizes.{longest_frame}
use Rattle.aoe_io.specs.Bytes.{Gave}
use Rattle.aoe_pcap.specs.declared.reader.Record.{Record}
use Rattle.aoe_pcap.specs.declared.reader.Record.TheVariants as record_is

-- the numbers of a file are big-endian, or else little-endian

-- a number of four bytes, and one of two
unfoldable pub word : Bool → ℕ → List ℕ
word big n = if big then to_be_bytes w32 n else to_le_bytes w32 n

unfoldable pub half : Bool → ℕ → List ℕ
half big n = if big then to_be_bytes w16 n else to_le_bytes w16 n

-- the number that four bytes spell, and that of two
unfoldable pub word_of : Bool → List ℕ → ℕ
word_of big bytes = if big then from_be_bytes w32 bytes else from_le_bytes w32 bytes

unfoldable pub half_of : Bool → List ℕ → ℕ
half_of big bytes = if big then from_be_bytes w16 bytes else from_le_bytes w16 bytes

-- a file's header: its byte order, whether fractions of a second are nanoseconds or microseconds, the time zone, the
-- accuracy of times, and the most bytes of a packet that are captured
pub record FileHead : Type 0 where
  pub big : Bool
  pub nanoseconds : Bool
  pub zone : ℕ
  pub accuracy : ℕ
  pub snap_length : ℕ

-- the magic number
abbrev pub magic : Bool → ℕ
magic nanoseconds = if nanoseconds then 0xa1b23c4d else 0xa1b2c3d4

-- the bytes of a file's header, of version 2.4 and of the link type of Ethernet
unfoldable pub head_bytes : FileHead → List ℕ
head_bytes h = word h.big (magic h.nanoseconds) ++ half h.big 2 ++ half h.big 4
    ++ word h.big h.zone ++ word h.big h.accuracy ++ word h.big h.snap_length ++ word h.big 1

-- a packet: its time, its length on the wire, and those of its bytes that were captured, from the front on
pub record Packet : Type 0 where
  pub seconds : ℕ
  pub fraction : ℕ
  pub original : ℕ
  pub captured : List ℕ

-- the four numbers in front of a packet's bytes
unfoldable pub record_head : Bool → ℕ → ℕ → ℕ → ℕ → List ℕ
record_head big seconds fraction captured original = word big seconds ++ word big fraction ++ word big captured ++ word big original

-- the bytes of a packet's record
abbrev pub packet_bytes : Bool → Packet → List ℕ
packet_bytes big p = record_head big p.seconds p.fraction (length p.captured) p.original ++ p.captured

-- a header, or a packet, whose numbers fit their places, and of which no more is captured than libpcap allows on Ethernet
pub record IsHead (h : FileHead) : Type 0 where
  pub zone : h.zone < 2 ^ 32
  pub accuracy : h.accuracy < 2 ^ 32
  pub snap_length : h.snap_length < 2 ^ 32

-- the most bytes of a packet that are captured
abbrev pub longest_captured : ℕ
longest_captured = 262144

pub record IsPacket (p : Packet) : Type 0 where
  pub seconds : p.seconds < 2 ^ 32
  pub fraction : p.fraction < 2 ^ 32
  pub original : p.original < 2 ^ 32
  pub captured : length p.captured ≤ longest_captured

-- a file that has these packets: its header, and the record of each
pub record IsCapture (bytes : List ℕ) (head : FileHead) (packets : List Packet) : Type 0 where
  pub fits : IsHead head
  pub each : All IsPacket packets
  pub spelled : bytes ≡ head_bytes head ++ flat_map (packet_bytes head.big) packets

-- a packet is a frame, whole or cut short, where no more than the longest frame was captured
abbrev pub kind : ℕ → ℕ → Record
kind captured original = if nat_lt longest_frame captured then record_is.Long captured else if nat_lt captured original then record_is.Short else record_is.Whole

-- the bytes of that frame
abbrev pub frame_of : List ℕ → List ℕ
frame_of captured = if nat_lt longest_frame (length captured) then [] else captured

-- a source gave the record of a packet, of this kind and with this frame
pub record GaveRecord (big : Bool) (left left' : Option (List ℕ)) (came : Record) (frame : List ℕ) : Type 0 where
  pub packet : Packet
  pub fits : IsPacket packet
  pub gave : Gave left left' (packet_bytes big packet)
  pub kind_is : came ≡ kind (length packet.captured) packet.original
  pub frame_is : frame ≡ frame_of packet.captured

-- bytes that begin with no header: they are fewer than it has, or the magic number, version or link type is another one
abbrev pub BeginsNoHead : List ℕ → Type 0
BeginsNoHead bytes = (h : FileHead) (rest : List ℕ) → bytes ≢ head_bytes h ++ rest

-- how many captured bytes the header of a record claims
abbrev pub claimed : Bool → List ℕ → ℕ
claimed big bytes = word_of big (slice_range bytes 8 12)

-- bytes that end within a record, or begin with one that claims more than may be captured
pub record IsCut (big : Bool) (bytes : List ℕ) : Type 0 where
  pub begun : bytes ≢ []
  pub cut : (length bytes < 16) ⊎ (longest_captured < claimed big bytes) ⊎ (length bytes < 16 + claimed big bytes)

-- the header that is written
abbrev pub written_head : FileHead
written_head = record { big = false; nanoseconds = false; zone = 0; accuracy = 0; snap_length = longest_frame }

-- the packet that is written of a frame
abbrev pub packet_of : List ℕ → Packet
packet_of frame = record { seconds = 0; fraction = 0; original = length frame; captured = frame }
