-- Decimal numbers.
use Rattle.std.specs.Prelude.{ℕ, ◌+◌, ◌*◌, ◌-◌, ◌^◌, List, [], ◌∷◌, ◌&&◌, length, nat_lt, nat_le, Option, Some, None, if◌then◌else◌}
use Rattle.std.specs.List.{list_all}
use Rattle.std.specs.Char.{is_ascii_digit}

-- the value of decimal digits: each digit times the power of ten of its place
abbrev pub decimal_value : List ℕ → ℕ
decimal_value [] = 0
decimal_value (d ∷ ds) = (d - 48) * 10 ^ length ds + decimal_value ds

-- the number that 1 to 20 digits spell, or nothing where a byte is no digit or the number is above max
abbrev pub number_of : List ℕ → ℕ → Option ℕ
number_of text max =
    if nat_lt 0 (length text) && nat_le (length text) 20 && list_all is_ascii_digit text && nat_le (decimal_value text) max
    then Some (decimal_value text)
    else None
