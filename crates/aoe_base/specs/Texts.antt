-- Texts of several parts: how they are printed, and how they are read.
use Rattle.std.specs.Prelude.{ℕ, ◌==◌, List, [], ◌∷◌, map, Option, Some, if◌then◌else◌, option_and_then, option_map}
use Rattle.std.specs.List.{join_with_byte}
use Rattle.aoe_base.specs.Names.{mac_text}
use Rattle.aoe_base.specs.declared.address.Mac.{Mac}

-- what stands before the part at a place: nothing before the first
abbrev pub between : ℕ → ℕ → List ℕ
between byte i = if i == 0 then [] else byte ∷ []

-- addresses, joined by commas (44)
abbrev pub macs_text : List Mac → List ℕ
macs_text macs = join_with_byte 44 (map mac_text macs)

-- what each of some texts spells, or nothing where one spells nothing
abbrev pub each : {T : Type 0} → (List ℕ → Option T) → List (List ℕ) → Option (List T)
each read [] = Some []
each read (text ∷ texts) = option_and_then (λ x. option_map (λ xs. x ∷ xs) (each read texts)) (read text)
