-- What a datagram is: a frame, or a frame of a network behind the header of VXLAN (RFC 7348, section 5).
use Rattle.std.specs.Prelude.{ℕ, ◌+◌, ◌*◌, ◌/◌, ◌%◌, ◌==◌, ◌&&◌, Bool, List, [], ◌∷◌, ◌++◌, length, drop, nat_le, slice_index, Option, Some, None, if◌then◌else◌}
use Rattle.aoe_wire.specs.Frames.{is_aoe}

-- the flag I, of the value 8, and three reserved bytes; the number of the network in three bytes, and one reserved
abbrev pub vxlan_head : ℕ → List ℕ
vxlan_head vni = 8 ∷ 0 ∷ 0 ∷ 0 ∷ vni / 65536 ∷ vni / 256 % 256 ∷ vni % 256 ∷ 0 ∷ []

-- what is sent for a frame: the frame alone, or behind the header of the network
abbrev pub datagram_of : Option ℕ → List ℕ → List ℕ
datagram_of None frame = frame
datagram_of (Some vni) frame = vxlan_head vni ++ frame

-- the datagram has the flag and the number of the network; what is reserved isn't looked at
abbrev pub is_of : ℕ → List ℕ → Bool
is_of vni datagram =
    nat_le 8 (length datagram) && (slice_index datagram 0 / 8 % 2 == 1)
    && (slice_index datagram 4 * 65536 + slice_index datagram 5 * 256 + slice_index datagram 6 == vni)

-- the frame of AoE that a datagram brings, or nothing
abbrev pub frame_of : Option ℕ → List ℕ → Option (List ℕ)
frame_of None datagram = if is_aoe datagram then Some datagram else None
frame_of (Some vni) datagram = if is_of vni datagram && is_aoe (drop 8 datagram) then Some (drop 8 datagram) else None
