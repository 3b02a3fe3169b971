-- Ethernet addresses, and lists of them.
use Rattle.std.specs.Prelude.{ℕ, ◌≢◌, ◌%◌, ◌==◌, Bool, true, not, ◌&&◌, List, [], ◌∷◌, slice_index, AllPairs}
use Rattle.std.specs.List.{list_any, slice_range}
use Rattle.std.specs.Str.{bytes_eq}
use Rattle.aoe_base.specs.declared.address.Mac.{Mac}

-- the address of all stations: all of its bits are 1 (IEEE 802.3, "Address fields")
abbrev pub broadcast : Mac
broadcast = record { 0 = 255 ∷ 255 ∷ 255 ∷ 255 ∷ 255 ∷ 255 ∷ [] }

-- the source of a frame (IEEE 802.3, "Address fields")
abbrev pub source_of : List ℕ → Mac
source_of frame = record { 0 = slice_range frame 6 12 }

-- one station's address: the lowest bit of its first byte is that of a group (IEEE 802, "individual/group")
abbrev pub is_individual : Mac → Bool
is_individual mac = slice_index mac.0 0 % 2 == 0

-- both are one address
abbrev pub same_address : Mac → Mac → Bool
same_address a b = bytes_eq a.0 b.0

-- the address stands in the list
abbrev pub holds : List Mac → Mac → Bool
holds list a = list_any (λ b. same_address b a) list

-- no address stands twice
abbrev pub all_unique : List Mac → Bool
all_unique [] = true
all_unique (a ∷ list) = not (holds list a) && all_unique list

-- the same, said of each pair of places
abbrev pub IsDistinct : List Mac → Type 0
IsDistinct list = AllPairs (λ a b. a ≢ b) list
