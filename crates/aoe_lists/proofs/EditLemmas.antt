-- An edit keeps a list in which no address stands twice.
use Rattle.std.proofs.Common.{◌≡◌, ◌==◌, cond, Bool, true, false, List, [], ◌∷◌, ◌++◌, Result, Ok, Err, length, refl, subst}
use Rattle.aoe_base.specs.declared.address.Mac.{Mac}
use Rattle.aoe_base.specs.Addresses.{all_unique, holds}
use Rattle.aoe_lists.specs.declared.masks.MaskError.{MaskError}
use Rattle.aoe_lists.specs.declared.masks.MaskError.TheVariants.{ListFull}
use Rattle.aoe_lists.specs.declared.masks.Directive.{Directive}
use Rattle.aoe_lists.specs.declared.masks.Directive.TheVariants.{Nothing, Add, Delete, Unknown}
use Rattle.aoe_lists.specs.Masks.{after_directive}
use Rattle.aoe_lists.specs.Settings.{max_addresses}
use Rattle.aoe_lists.proofs.AddressLemmas.{all_unique-append, all_unique-without}

-- where a list is left, no address stands twice in it
abbrev AllUnique : Result (List Mac) MaskError → Type 0
AllUnique (Ok list) = all_unique list ≡ true
AllUnique (Err e) = Unit {0}

after_directive-sound : (masks : List Mac) (d : Directive) → all_unique masks ≡ true → AllUnique (after_directive masks d)
after_directive-sound masks Nothing once = once
after_directive-sound masks (Add a) once = at (holds masks a) refl (length masks == max_addresses)
  where
    at : (there : Bool) → holds masks a ≡ there → (full : Bool) → AllUnique (cond there (Ok masks) (cond full (Err ListFull) (Ok (masks ++ a ∷ []))))
    at true e full = once
    at false e true = tt
    at false e false = all_unique-append masks a once e
after_directive-sound masks (Delete a) once = all_unique-without masks a once
after_directive-sound masks Unknown once = tt

-- one directive that is applied
pub all_unique-after_directive : (masks list : List Mac) (d : Directive) → after_directive masks d ≡ Ok list → all_unique masks ≡ true → all_unique list ≡ true
all_unique-after_directive masks list d e once = subst AllUnique e (after_directive-sound masks d once)
