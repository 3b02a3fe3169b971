-- Replies wait as far as there is room.
use Rattle.std.proofs.Common.{◌≡◌, ◌≤◌, ◌<◌, ℕ, List, [], ◌∷◌, ◌++◌, length, length-append, map, false, true, sym, ap, ◌∙◌, arith}
use Rattle.std.proofs.lemmas.List.{length-map, length-take, map-append, take-append-le, take_all}
use Rattle.std.specs.Prelude.{Result, Ok, Err, IsOk, OnOk}
use Rattle.aoe_serve.specs.Arrivals.{replies_of}
use Rattle.aoe_serve.specs.Rounds.{Keeps, Outcome, Round}
use Rattle.aoe_serve.specs.ShelfLink.{with_room}
use Rattle.aoe_serve.specs.Slots.{Slot}

pub stays_short : (result : Outcome) (frame : List ℕ) (waiting waiting' : List (List ℕ)) (old new : List Slot) → length waiting ≤ 64
    → Round (Keeps result waiting waiting') frame old new → length waiting' ≤ 64
stays_short (Ok u) frame waiting waiting' old new few r = omega (arith, ap length (r.took few), length-take 64 (waiting ++ replies_of r.fates))
stays_short (Err e) frame waiting waiting' old new few r = absurd r.took

pub on_ok : {T E : Type 0} {P : Type 0} (result : Result T E) → IsOk result → OnOk result P → P
on_ok (Ok v) i p = p
on_ok (Err e) i p = absurd (let no : false ≡ true → ⊥ = λ q. (cc) in no i)

-- The frames that are kept, as lists of bytes.

pub lost : {X : Type 0} (held : List X) (f : X → List ℕ) (frame : List ℕ) → length held ≡ 64 → map f held ≡ with_room (map f held ++ frame ∷ [])
lost held f frame full =
    sym (take-append-le 64 (map f held) (frame ∷ []) (omega (arith, full, length-map held f))
    ∙ take_all 64 (map f held) (omega (arith, full, length-map held f)))

pub kept : {X : Type 0} (held : List X) (f : X → List ℕ) (a : X) → length held < 64 → map f (held ++ a ∷ []) ≡ with_room (map f held ++ f a ∷ [])
kept held f a few =
    map-append f held (a ∷ []) ∙ sym (take_all 64 (map f held ++ f a ∷ []) (omega (arith, few, length-append (map f held) (f a ∷ []), length-map held f)))
