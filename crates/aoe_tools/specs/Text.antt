-- What the tools print.
use Rattle.std.specs.Prelude.{ℕ, ◌*◌, ◌/◌, ◌%◌, ◌^◌, Bool, true, false, List, [], ◌∷◌, ◌++◌, drop, length, Option, Some, None, codes, decimal}
use Rattle.std.specs.Char.{digit_char}
use Rattle.std.specs.List.{flat_map}
use Rattle.std.specs.Simd.{first_chunks}
use Rattle.aoe_base.specs.Names.{device_text, mac_text}
use Rattle.aoe_base.specs.Texts.{macs_text}
use Rattle.aoe_tools.specs.declared.found.Seen.{Seen}
use Rattle.aoe_tools.specs.declared.found.State.{State}
use Rattle.aoe_tools.specs.declared.found.State.TheVariants as state

-- a config string and a line feed: it stands behind 8 bytes of the arguments (AoEr11, "Query Config Information")
abbrev pub config_text : List ℕ → List ℕ
config_text args = drop 8 args ++ 10 ∷ []

-- the end of a device's line: a line feed, or, where that is asked for, a space and the device's config string before it
abbrev pub device_end : Bool → Seen → List ℕ
device_end false s = 10 ∷ []
device_end true s = 32 ∷ config_text s.args.items

-- a device that was found: its name, a space, its ports, and its config string where that is asked for
abbrev pub device_line : Bool → Seen → List ℕ
device_line long s = device_text s.id ++ 32 ∷ (macs_text s.ports.items ++ device_end long s)

-- the devices that were found, one a line
abbrev pub found_text : Bool → List Seen → List ℕ
found_text long found = flat_map (device_line long) found

-- one decimal digit of a number: that of 1, of 10 or of 100
abbrev pub digit_of : ℕ → ℕ → ℕ
digit_of n unit = digit_char (n / unit % 10)

-- a number of thousandths, with its three decimals
abbrev pub thousandths_text : ℕ → List ℕ
thousandths_text n = decimal (n / 1000) ++ 46 ∷ digit_of n 100 ∷ digit_of n 10 ∷ digit_of n 1 ∷ []

-- sectors of 512 bytes in units of 10^9 bytes, the further decimals cut off; a hyphen where there is no number
abbrev pub size_text : Option ℕ → List ℕ
size_text (Some total) = thousandths_text (total * 512 / 10 ^ 6) ++ codes "GB"
size_text None = codes "-"

-- the same in sectors
abbrev pub sectors_text : Option ℕ → List ℕ
sectors_text (Some total) = decimal total
sectors_text None = codes "-"

-- the one or the other
abbrev pub extent_text : Bool → Option ℕ → List ℕ
extent_text false total = size_text total
extent_text true total = sectors_text total

abbrev pub state_text : State → List ℕ
state_text state.Found = codes "found"
state_text state.Up = codes "up"
state_text state.Reserved = codes "reserved"
state_text state.Silent = codes "silent"
state_text state.Error = codes "error"

-- a device that was asked: its name and its size, in units of 10^9 bytes or in sectors
abbrev pub stat_head : Bool → Seen → List ℕ
stat_head sectors s = device_text s.id ++ 32 ∷ extent_text sectors s.total

-- its ports and its state
abbrev pub stat_tail : Seen → List ℕ
stat_tail s = 32 ∷ (macs_text s.ports.items ++ 32 ∷ (state_text s.state ++ 10 ∷ []))

abbrev pub stat_line : Bool → Seen → List ℕ
stat_line sectors s = stat_head sectors s ++ stat_tail s

-- the devices that were asked, one a line
abbrev pub stat_text : Bool → List Seen → List ℕ
stat_text sectors found = flat_map (stat_line sectors) found

-- the arguments behind the fixed ones, in pieces of n bytes each
abbrev pub pieces : ℕ → ℕ → List ℕ → List (List ℕ)
pieces n fixed args = first_chunks n (length (drop fixed args) / n) (drop fixed args)

-- the line of an address, by its bytes
abbrev pub mac_line : List ℕ → List ℕ
mac_line bytes = mac_text (record { 0 = bytes }) ++ 10 ∷ []

-- the line of a directive: its address stands behind two bytes (AoEr11, "MAC Mask List")
abbrev pub dir_line : List ℕ → List ℕ
dir_line dir = mac_line (drop 2 dir)

-- the addresses of a mask list, one a line: behind 4 bytes of the arguments stand directives of 8 bytes
abbrev pub masks_text : List ℕ → List ℕ
masks_text args = flat_map dir_line (pieces 8 4 args)

-- the addresses of a reserve list, one a line: behind 2 bytes of the arguments stand addresses of 6 (AoEr11, "Reserve / Release")
abbrev pub reserves_text : List ℕ → List ℕ
reserves_text args = flat_map mac_line (pieces 6 2 args)
