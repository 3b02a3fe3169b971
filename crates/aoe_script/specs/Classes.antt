-- The classes of words, and what words of them spell.
use Rattle.std.specs.Prelude.{ℕ, ◌+◌, ◌*◌, Bool, true, false, ◌&&◌, ◌||◌, ◌==◌, List, [], ◌∷◌, length, nat_lt, nat_le, take, drop, slice_index, Option, Some, None, if◌then◌else◌, option_and_then, option_map, codes}
use Rattle.std.specs.List.{list_all, slice_split}
use Rattle.std.specs.Str.{bytes_eq}
use Rattle.std.specs.Int.{is_in_range}
use Rattle.std.specs.Char.{is_ascii_digit, digit_value}
use Rattle.arrayvec.specs.ArrayVec.{ArrayVec}
use Rattle.aoe_base.specs.Decimal.{number_of}
use Rattle.aoe_base.specs.Names.{is_hex_digit, mac_of}
use Rattle.aoe_base.specs.declared.address.Mac.{Mac}
use Rattle.aoe_base.specs.Texts.{each}
use Rattle.aoe_disk.specs.declared.loss.Loss.{Loss}
use Rattle.aoe_disk.specs.declared.loss.Loss.TheVariants.{Keep as Kept, Old, Torn, Mix}
use Rattle.aoe_lists.specs.declared.dir.Dir.{Dir}
use Rattle.aoe_lists.specs.Settings.{max_directives}
use Rattle.aoe_script.specs.declared.event.Which.{Which}
use Rattle.aoe_script.specs.declared.event.Which.TheVariants.{Store, Keep}
use Rattle.aoe_script.specs.declared.keyword.Keyword.{Keyword}
use Rattle.aoe_script.specs.declared.keyword.Keyword.TheVariants.{Life, Shelf, Slot, Host, Attach, Readonly, Read, Write, Flush, Identify, Config, Masks, Reserve, Tick, Deliver, Pass, Skip, Again, Inject, Fail, Stop, Crash}
use Rattle.aoe_script.specs.Tables.{listed}
use Rattle.aoe_script.specs.Words.{Text}

-- ---- names and numbers

-- a name has room for eight bytes
abbrev pub name_of : Text → Option (ArrayVec ℕ)
name_of text = if nat_le (length text) 8 then Some record { items = text } else None

abbrev pub is_lower : ℕ → Bool
is_lower c = is_in_range 97 122 c

-- it is a lower-case letter and up to seven lower-case letters or digits
unfoldable pub is_name : ArrayVec ℕ → Bool
is_name name = nat_le (length name.items) 8 && is_lower (slice_index name.items 0) && list_all (λ c. is_lower c || is_ascii_digit c) name.items

-- a number of up to 64 bits
abbrev pub number : Text → Option ℕ
number text = number_of text 18446744073709551615

-- ---- bytes

-- the byte that two lower-case hexadecimal digits spell
abbrev pub pair : ℕ → ℕ → Option ℕ
pair high low = if is_hex_digit high && is_hex_digit low then Some (digit_value high * 16 + digit_value low) else None

-- HH: one byte
abbrev pub byte_of : Text → Option ℕ
byte_of (high ∷ low ∷ []) = pair high low
byte_of _ = None

-- an even number of digits
abbrev pub pairs : Text → Option (List ℕ)
pairs [] = Some []
pairs (high ∷ []) = None
pairs (high ∷ low ∷ more) = option_and_then (λ byte. option_map (λ bytes. byte ∷ bytes) (pairs more)) (pair high low)

-- HEX: an even number of digits, or a hyphen for none
unfoldable pub bytes_of : Text → Option (List ℕ)
bytes_of text = if bytes_eq text (codes "-") then Some [] else pairs text

-- ---- addresses, joined by commas (44)

-- where they are so many at most
abbrev pub at_most : {T : Type 0} → ℕ → Option (List T) → Option (List T)
at_most most = option_and_then (λ xs. if nat_le (length xs) most then Some xs else None)

unfoldable pub macs_of : Text → Option (List Mac)
macs_of text = at_most max_directives (each mac_of (slice_split (λ c. c == 44) text))

-- PORTS: those of a station
abbrev pub ports_of : Text → Option (List Mac)
ports_of text = at_most 4 (macs_of text)

-- LIST: addresses, or a hyphen for none
abbrev pub list_of : Text → Option (List Mac)
list_of text = if bytes_eq text (codes "-") then Some [] else macs_of text

-- +MAC or -MAC
abbrev pub dir_of : Text → Option Dir
dir_of text =
    if slice_index text 0 == 43 then option_map (λ mac. record { add = true; mac = mac }) (mac_of (drop 1 text))
    else if slice_index text 0 == 45 then option_map (λ mac. record { add = false; mac = mac }) (mac_of (drop 1 text))
    else None

unfoldable pub dirs_of : Text → Option (List Dir)
dirs_of text = at_most max_directives (each dir_of (slice_split (λ c. c == 44) text))

-- ---- fixed words

-- the first words
abbrev pub keywords : List (Text × Keyword)
keywords =
    (codes "life", Life) ∷ (codes "shelf", Shelf) ∷ (codes "slot", Slot) ∷ (codes "host", Host) ∷ (codes "attach", Attach)
    ∷ (codes "readonly", Readonly)
    ∷ (codes "read", Read) ∷ (codes "write", Write) ∷ (codes "flush", Flush) ∷ (codes "identify", Identify)
    ∷ (codes "config", Config) ∷ (codes "masks", Masks) ∷ (codes "reserve", Reserve)
    ∷ (codes "tick", Tick) ∷ (codes "deliver", Deliver) ∷ (codes "pass", Pass) ∷ (codes "skip", Skip) ∷ (codes "again", Again) ∷ (codes "inject", Inject)
    ∷ (codes "fail", Fail) ∷ (codes "stop", Stop) ∷ (codes "crash", Crash) ∷ []

abbrev pub keyword_of : Text → Option Keyword
keyword_of word = listed word keywords

-- the fields CCmd and RCmd of an action (AoEr11, "Query Config Information", "Reserve / Release")
abbrev pub ccmd_of : Text → Option ℕ
ccmd_of word =
    if bytes_eq word (codes "read") then Some 0
    else if bytes_eq word (codes "test") then Some 1
    else if bytes_eq word (codes "prefix") then Some 2
    else if bytes_eq word (codes "set") then Some 3
    else if bytes_eq word (codes "force") then Some 4
    else None

abbrev pub rcmd_of : Text → Option ℕ
rcmd_of word =
    if bytes_eq word (codes "read") then Some 0
    else if bytes_eq word (codes "set") then Some 1
    else if bytes_eq word (codes "force") then Some 2
    else None

-- whether the mask list is edited
abbrev pub edit_of : Text → Option Bool
edit_of word =
    if bytes_eq word (codes "read") then Some false
    else if bytes_eq word (codes "edit") then Some true
    else None

abbrev pub which_of : Text → Option Which
which_of word =
    if bytes_eq word (codes "store") then Some Store
    else if bytes_eq word (codes "keep") then Some Keep
    else None

-- MODE
abbrev pub mode_of : Text → Option Loss
mode_of word =
    if bytes_eq word (codes "keep") then Some Kept
    else if bytes_eq word (codes "old") then Some Old
    else if bytes_eq word (codes "torn") then Some Torn
    else if nat_lt 4 (length word) && bytes_eq (take 4 word) (codes "mix:") then option_map Mix (number (drop 4 word))
    else None
