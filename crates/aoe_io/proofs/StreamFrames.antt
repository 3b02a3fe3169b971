-- A stream of one frame more.
use Rattle.std.proofs.Common.{◌≡◌, ℕ, List, [], ◌∷◌, ◌++◌, ap, ◌∙◌, append-nil}
use Rattle.std.proofs.lemmas.Grind.{flat_map-append}
use Rattle.aoe_io.specs.Stream.{framed, stream}

pub stream-frame : (fs : List (List ℕ)) (f : List ℕ) → stream (fs ++ f ∷ []) ≡ stream fs ++ framed f
stream-frame fs f = flat_map-append framed fs (f ∷ []) ∙ ap (λ (t : List ℕ). stream fs ++ t) (append-nil (framed f))
