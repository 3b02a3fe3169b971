-- The VLAN of a frame at a port, and the frame with a tag and without one (IEEE 802.1Q).
use Rattle.std.specs.Prelude.{ℕ, ◌≡◌, ◌≤◌, true, ◌+◌, ◌*◌, ◌/◌, ◌%◌, ◌==◌, ◌&&◌, Bool, List, ◌∷◌, ◌++◌, length, take, drop, slice_index, nat_le, Option, Some, None, if◌then◌else◌}
use Rattle.std.specs.List.{list_all, list_any, slice_range}
use Rattle.std.specs.Int.{w16, to_be_bytes}
use Rattle.aoe_base.specs.Addresses.{is_individual, source_of}
use Rattle.aoe_base.specs.declared.address.Mac.{Mac}
use Rattle.aoe_base.specs.Sizes.{longest_frame}
use Rattle.aoe_vlan.specs.declared.port.PortKind.{PortKind}
use Rattle.aoe_vlan.specs.declared.port.PortKind.TheVariants.{Access, Trunk}

-- the destination of a frame (IEEE 802.3, "Address fields")
abbrev pub destination_of : List ℕ → Mac
destination_of frame = record { 0 = slice_range frame 0 6 }

-- behind the source stands 0x8100, the type of a tag (IEEE 802.1Q, "Tag Protocol Identifier")
abbrev pub has_tag : List ℕ → Bool
has_tag frame = slice_index frame 12 == 129 && slice_index frame 13 == 0

-- the two bytes behind that type: priority and drop mark in the high 4 bits, the VLAN's number in the low 12 (IEEE 802.1Q, "VLAN Tag Control
-- Information")
abbrev pub control : List ℕ → ℕ
control frame = slice_index frame 14 * 256 + slice_index frame 15

-- the number in the tag, where there is a tag
abbrev pub tag_number : List ℕ → Option ℕ
tag_number frame = if has_tag frame then Some (control frame % 4096) else None

-- the priority and the drop mark; 0 without a tag
abbrev pub mark : List ℕ → ℕ
mark frame = if has_tag frame then control frame / 4096 else 0

-- the frame without its tag
abbrev pub bare : List ℕ → List ℕ
bare frame = if has_tag frame then take 12 frame ++ drop 16 frame else frame

-- a frame without a tag gets one
abbrev pub tagged : ℕ → ℕ → List ℕ → List ℕ
tagged mark vid frame = take 12 frame ++ (129 ∷ 0 ∷ to_be_bytes w16 (mark * 4096 + vid)) ++ drop 12 frame

-- a frame that a switch takes: it has its addresses, its type and all of its tag, the source is one station, and it isn't too long
unfoldable pub is_frame : List ℕ → Bool
is_frame frame = nat_le (if has_tag frame then 18 else 14) (length frame) && is_individual (source_of frame) && nat_le (length (bare frame)) longest_frame

-- the port is of the VLAN
abbrev pub carries : ℕ → PortKind → Bool
carries vid (Access number) = number == vid
carries vid (Trunk numbers) = list_any (λ number. number == vid) numbers.items

-- the VLAN of a frame whose tag has this number, or that has no tag: number 0 is a priority alone
abbrev pub vlan_by : PortKind → Option ℕ → Option ℕ
vlan_by (Access vid) None = Some vid
vlan_by (Access vid) (Some number) = if number == 0 then Some vid else None
vlan_by (Trunk numbers) None = None
vlan_by (Trunk numbers) (Some number) = if carries number (Trunk numbers) then Some number else None

-- the VLAN of a frame that comes in at a port of this kind
abbrev pub vlan_of : PortKind → List ℕ → Option ℕ
vlan_of kind frame = if is_frame frame then vlan_by kind (tag_number frame) else None

-- a frame of the VLAN as a port of this kind gives it: a trunk with a tag that keeps the priority and the drop mark
abbrev pub formed : PortKind → ℕ → List ℕ → List ℕ
formed (Access number) vid frame = bare frame
formed (Trunk numbers) vid frame = tagged (mark frame) vid (bare frame)

-- a number of a VLAN: 0 and 4095 are none (IEEE 802.1Q, "Reserved VID values")
abbrev pub is_vid : ℕ → Bool
is_vid vid = nat_le 1 vid && nat_le vid 4094

-- each number of the port is that of a VLAN
abbrev pub is_numbered : PortKind → Bool
is_numbered (Access vid) = is_vid vid
is_numbered (Trunk numbers) = list_all is_vid numbers.items

abbrev pub IsNumbered : PortKind → Type 0
IsNumbered kind = (vid : ℕ) → carries vid kind ≡ true → (1 ≤ vid) × (vid ≤ 4094)
