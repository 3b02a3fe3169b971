-- What is made of lists of addresses.
use Rattle.std.specs.Prelude.{not, List, [], ◌∷◌, filter}
use Rattle.aoe_base.specs.declared.address.Mac.{Mac}
use Rattle.aoe_base.specs.Addresses.{same_address}

-- the list without an address
abbrev pub without : List Mac → Mac → List Mac
without list a = filter (λ b. not (same_address b a)) list

-- each address at its first place, its later copies left out
abbrev pub first_places : List Mac → List Mac
first_places [] = []
first_places (a ∷ list) = a ∷ without (first_places list) a
