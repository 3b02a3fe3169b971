-- The stream of frames is read in one way.
use Rattle.std.proofs.Common.{◌≡◌, ◌<◌, ℕ, List, [], ◌∷◌, ◌++◌, ◌+◌, ◌*◌, ◌/◌, ◌%◌, length, take, drop, sym, ap, ◌∙◌, arith, refl, inl, inr, length-append}
use Rattle.std.proofs.lemmas.List.{take_at, drop_at}
use Rattle.std.proofs.lemmas.List.Elements.{All-get_or}
use Rattle.std.specs.Prelude.{All}
use Rattle.aoe_io.specs.Stream.{framed, stream, IsFrame, IsBroken}

-- the two bytes of a length say it
same-length : (m n : ℕ) → m < 65536 → n < 65536 → m / 256 % 256 ≡ n / 256 % 256 → m % 256 ≡ n % 256 → m ≡ n
same-length m n m_small n_small high low = omega arith

-- two lists whose fronts have one length are the same front by front, and behind it
pub same-front : (f g xs ys : List ℕ) → length f ≡ length g → f ++ xs ≡ g ++ ys → (f ≡ g) × (xs ≡ ys)
same-front f g xs ys same e = (
  sym (take_at f xs (length f) refl) ∙ ap (take (length f)) e ∙ take_at g ys (length f) (sym same),
  sym (drop_at f xs (length f) refl) ∙ ap (drop (length f)) e ∙ drop_at g ys (length f) (sym same),
)

pub one-frame : (f g rest other : List ℕ) → IsFrame f → IsFrame g → framed f ++ rest ≡ framed g ++ other → (f ≡ g) × (rest ≡ other)
one-frame f g rest other f_is g_is e =
    let high : length f / 256 % 256 ≡ length g / 256 % 256 = cc in
    let low : length f % 256 ≡ length g % 256 = cc in
    let behind : f ++ rest ≡ g ++ other = cc in
    same-front f g rest other (same-length (length f) (length g) (omega (arith, f_is.short)) (omega (arith, g_is.short)) high low) behind

-- a frame in front of a stream is its first
pub record First (rest : List ℕ) (gs : List (List ℕ)) : Type 0 where
  pub some : 0 < length gs
  pub behind : rest ≡ stream (drop 1 gs)

pub first-frame : (f rest : List ℕ) (gs : List (List ℕ)) → IsFrame f → All IsFrame gs → framed f ++ rest ≡ stream gs → First rest gs
first-frame f rest [] is all e = absurd (cc)
first-frame f rest (g ∷ gs) is all e =
    record { some = omega arith; behind = (one-frame f g rest (stream gs) is (All-get_or IsFrame (g ∷ gs) 0 [] (omega arith) all) e).1 }

-- bytes that begin with a frame aren't broken
frame-whole : (f rest : List ℕ) → IsFrame f → IsBroken (framed f ++ rest) → ⊥
frame-whole f rest is broken =
    let n : (length f / 256 % 256) * 256 + length f % 256 ≡ length f = omega (arith, is.short) in
    elim broken [
      | inl below ↦ omega (arith, is.long)
      | inr (inl above) ↦ omega (arith, is.short)
      | inr (inr short) ↦ omega (arith, length-append f rest)
    ]

-- a stream isn't broken
pub stream-whole : (fs : List (List ℕ)) → All IsFrame fs → IsBroken (stream fs) → ⊥
stream-whole [] all broken = broken
stream-whole (f ∷ fs) all broken = frame-whole f (stream fs) (All-get_or IsFrame (f ∷ fs) 0 [] (omega arith) all) broken
