-- What a source gave and a sink took, where they tell it. Telling neither begins nor ends.
use Rattle.std.specs.Prelude.{ℕ, ◌≡◌, ◌<◌, List, [], ◌++◌, length, take, Option, IfSome}
use Rattle.std.specs.Option.{option_map}

-- the source gave these bytes
abbrev pub Gave : Option (List ℕ) → Option (List ℕ) → List ℕ → Type 0
Gave before after bytes = before ≡ option_map (λ rest. bytes ++ rest) after

-- the source gave some bytes or none
abbrev pub GaveSome : Option (List ℕ) → Option (List ℕ) → Type 0
GaveSome before after = (bytes : List ℕ) × Gave before after bytes

-- the sink took these bytes
abbrev pub Took : Option (List ℕ) → Option (List ℕ) → List ℕ → Type 0
Took before after bytes = after ≡ option_map (λ held. held ++ bytes) before

-- the sink took a part of these bytes, from the front on and not all
abbrev pub TookSome : Option (List ℕ) → Option (List ℕ) → List ℕ → Type 0
TookSome before after bytes = (n : ℕ) × (n < length bytes) × Took before after (take n bytes)

-- nothing is left
abbrev pub IsEnded : Option (List ℕ) → Type 0
IsEnded left = IfSome left (λ bytes. bytes ≡ [])
