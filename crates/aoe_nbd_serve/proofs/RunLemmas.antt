-- What the loop of a server takes of its options.
use Rattle.std.proofs.Common.{◌≡◌, false, Option, Some, None, refl}
use Rattle.std.specs.Prelude.{is_some}

pub is-nothing : {A : Type 0} (o : Option A) → is_some o ≡ false → o ≡ None
is-nothing None e = refl
is-nothing (Some a) e = absurd cc
