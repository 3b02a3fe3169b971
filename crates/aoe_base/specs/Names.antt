-- Ethernet addresses and the names of devices, as text.
use Rattle.std.specs.Prelude.{ℕ, ◌≡◌, ◌+◌, ◌*◌, ◌/◌, ◌%◌, Bool, ◌&&◌, ◌||◌, ◌==◌, decimal, List, [], ◌∷◌, ◌++◌, map, drop, length, Option, Some, None, if◌then◌else◌, option_and_then, slice_index, position}
use Rattle.std.specs.List.{list_all, join_with_byte, slice_range}
use Rattle.std.specs.Int.{is_in_range}
use Rattle.std.specs.Char.{digit_char, digit_value}
use Rattle.aoe_base.specs.Decimal.{number_of}
use Rattle.aoe_base.specs.declared.address.Mac.{Mac}
use Rattle.aoe_base.specs.declared.address.TargetId.{TargetId}

-- a lower-case hexadecimal digit: 0 to 9, or a to f
abbrev pub is_hex_digit : ℕ → Bool
is_hex_digit c = is_in_range 48 57 c || is_in_range 97 102 c

-- two hexadecimal digits stand at a place of the text
unfoldable pub is_pair_at : List ℕ → ℕ → Bool
is_pair_at text i = is_hex_digit (slice_index text i) && is_hex_digit (slice_index text (i + 1))

-- the byte that they spell
unfoldable pub pair_at : List ℕ → ℕ → ℕ
pair_at text i = digit_value (slice_index text i) * 16 + digit_value (slice_index text (i + 1))

-- where the pairs of digits of an address stand in its text, and the colons between them
abbrev pub pair_places : List ℕ
pair_places = 0 ∷ 3 ∷ 6 ∷ 9 ∷ 12 ∷ 15 ∷ []

abbrev pub colon_places : List ℕ
colon_places = 2 ∷ 5 ∷ 8 ∷ 11 ∷ 14 ∷ []

abbrev pub is_mac_text : List ℕ → Bool
is_mac_text text =
    length text == 17 && list_all (λ i. slice_index text i == 58) colon_places && list_all (is_pair_at text) pair_places

-- the address that a text of six pairs of digits with colons between them spells, or nothing
unfoldable pub mac_of : List ℕ → Option Mac
mac_of text = if is_mac_text text then Some record { 0 = map (pair_at text) pair_places } else None

-- a byte as two hexadecimal digits, and an address as six of them with colons between them
abbrev pub pair_text : ℕ → List ℕ
pair_text b = digit_char (b / 16) ∷ digit_char (b % 16) ∷ []

abbrev pub mac_text : Mac → List ℕ
mac_text mac = join_with_byte 58 (map pair_text mac.0)

-- the device of the shelf and the slot that these two texts spell, or nothing
abbrev pub id_of : List ℕ → List ℕ → Option TargetId
id_of shelf slot =
    option_and_then (λ major. option_and_then (λ minor. Some record { major = major; minor = minor }) (number_of slot 254)) (number_of shelf 65534)

-- the same of a text with a point at the place i
abbrev pub parts_of : List ℕ → ℕ → Option TargetId
parts_of text i = id_of (slice_range text 1 i) (drop (i + 1) text)

-- the device that a text spells, or nothing: e (101), a shelf's number, the first point (46), and a slot's number
unfoldable pub device_of : List ℕ → Option TargetId
device_of text =
    if slice_index text 0 == 101 then option_and_then (parts_of text) (position (λ c. c == 46) text) else None

-- the text that is printed for a device, without leading zeros
abbrev pub device_text : TargetId → List ℕ
device_text id = 101 ∷ (decimal id.major ++ 46 ∷ decimal id.minor)

-- the text is e, a number up to 65534, a point and a number up to 254, and these are the device's
pub record IsNameOf (id : TargetId) (text : List ℕ) : Type 0 where
  pub shelf : List ℕ
  pub slot : List ℕ
  pub text_is : text ≡ 101 ∷ (shelf ++ 46 ∷ slot)
  pub major : number_of shelf 65534 ≡ Some id.major
  pub minor : number_of slot 254 ≡ Some id.minor
