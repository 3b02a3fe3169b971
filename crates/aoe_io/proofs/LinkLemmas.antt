-- The turns of a link in memory.
use Rattle.std.proofs.Common.{ℕ, suc, ◌≡◌, ◌<◌, ◌≤◌, ◌+◌, ◌-◌, ◌^◌, true, List, [], ◌∷◌, ◌++◌, Option, Some, None, drop, take, length, length-append, map, reverse, min, nat_lt, refl, sym, ap, ◌∙◌, arith, inl, inr, if◌then◌else◌}
use Rattle.std.specs.Prelude.{get_or}
use Rattle.std.specs.Option.{option_map}
use Rattle.std.proofs.lemmas.List.{append_assoc, drop-drop, drop_all, drop_more, take_more, map-append, reverse-append}
use Rattle.std.proofs.lemmas.Bool.{cases_lt, lt-ltb, le-ltb}
use Rattle.aoe_io.specs.Link.{Added, GaveTurns, Turn, Turned}
use Rattle.aoe_io.specs.LinkMemory.{Linking, given_of, passed, turn_next, IsTurned}
use Rattle.aoe_io.specs.Memory.{counted}

-- the turn of a list is that of its head
turn-head : (turn : Option (List ℕ)) (coming : List (Option (List ℕ))) → turn_next (turn ∷ coming) ≡ turn_next (turn ∷ [])
turn-head None coming = refl
turn-head (Some frame) coming = refl

-- what is to come, behind a turn or at the end
pub coming-passed : (all : List (Option (List ℕ))) (at : ℕ) → at ≤ length all → drop (min (at + 1) (length all)) all ≡ drop 1 (drop at all)
coming-passed all at within = elim (cases_lt at (length all)) [
  | inl here ↦ let next : min (at + 1) (length all) ≡ at + 1 = omega arith in ap (λ n. drop n all) next ∙ sym (drop-drop 1 at all)
  | inr over ↦
      let still : min (at + 1) (length all) ≡ at = omega arith in
      ap (λ n. drop n all) still ∙ drop_all at all over ∙ sym (ap (drop 1) (drop_all at all over))
]

given-next : (all : List (Option (List ℕ))) (at : ℕ) → at < length all → given_of all (at + 1) (at + 1) ≡ turn_next (drop at all) ∷ given_of all at at
given-next all at here =
    let brought : Option (List ℕ) → Turn = λ turn. turn_next (turn ∷ []) in
    let turn = get_or all at None in
    let after : at + 1 - (at + 1) ≡ 0 = omega arith in
    let before : at - at ≡ 0 = omega arith in
    let latest : reverse (map brought (take (at + 1) all)) ≡ brought turn ∷ reverse (map brought (take at all)) =
    ap (λ l. reverse (map brought l)) (take_more all at None here)
    ∙ ap reverse (map-append brought (take at all) (turn ∷ []))
    ∙ reverse-append (map brought (take at all)) (brought turn ∷ []) in
    rw (after, before, latest, drop_more all at None here, turn-head turn (drop (at + 1) all)) refl

given-again : (all : List (Option (List ℕ))) (at turns : ℕ) → length all ≤ at → at ≤ turns
    → given_of all at (turns + 1) ≡ turn_next (drop at all) ∷ given_of all at turns
given-again all at turns over asked =
    let more : turns + 1 - at ≡ suc (turns - at) = omega arith in
    rw (more, drop_all at all over) refl

-- what was given, one turn on
pub given-passed : (all : List (Option (List ℕ))) (at turns : ℕ) → IsTurned (length all) at turns → length all ≤ 2 ^ 64 - 1 → turns ≤ 2 ^ 64 - 1
    → given_of all (min (at + 1) (length all)) (min (turns + 1) (2 ^ 64 - 1))
    ≡ (if nat_lt turns (2 ^ 64 - 1) then turn_next (drop at all) ∷ given_of all at turns else given_of all at turns)
given-passed all at turns is long most = elim (cases_lt at (length all)) [
  | inl here ↦
      let same : turns ≡ at = is.each here in
      let more : nat_lt turns (2 ^ 64 - 1) ≡ true = lt-ltb turns (2 ^ 64 - 1) (omega arith) in
      let next : min (at + 1) (length all) ≡ at + 1 = omega arith in
      let count : min (turns + 1) (2 ^ 64 - 1) ≡ at + 1 = omega arith in
      rw (next, count, more, same) (given-next all at here)
  | inr over ↦
      let within = is.within in
      let still : min (at + 1) (length all) ≡ at = omega arith in
      elim (cases_lt turns (2 ^ 64 - 1)) [
        | inl below ↦
            let count : min (turns + 1) (2 ^ 64 - 1) ≡ turns + 1 = omega arith in
            rw (still, count, lt-ltb turns (2 ^ 64 - 1) below) (given-again all at turns over is.asked)
        | inr full ↦
            let count : min (turns + 1) (2 ^ 64 - 1) ≡ turns = omega arith in
            rw (still, count, le-ltb turns (2 ^ 64 - 1) full) refl
      ]
]

pub passed-is : (l : Linking) (coming : List (Option (List ℕ))) (given : List Turn) (turns : ℕ) → coming ≡ drop 1 l.coming
    → given ≡ (if nat_lt l.turns (2 ^ 64 - 1) then turn_next l.coming ∷ l.given else l.given) → turns ≡ counted l.turns
    → record l { coming = coming; given = given; turns = turns } ≡ passed l
passed-is l coming given turns coming_is given_is turns_is = rw (coming_is, given_is, turns_is) refl

-- what came in two goes; of a link that stayed below its count's end in the second it is so in the first
pub Added-then : {A : Type 0} (a b c : Option (List A)) (xs ys : List A) → Added a b xs → Added b c ys → Added a c (ys ++ xs)
Added-then None b c xs ys first second = second ∙ ap (option_map (λ told. ys ++ told)) first
Added-then (Some l) b c xs ys first second = second ∙ ap (option_map (λ told. ys ++ told)) first ∙ sym (ap Some (append_assoc ys xs l))

pub GaveTurns-then : (m n : ℕ) (a b c : Option (List Turn)) (xs ys : List Turn) → m ≤ n → GaveTurns m a b xs → GaveTurns n b c ys → GaveTurns n a c (ys ++ xs)
GaveTurns-then m n a b c xs ys more first second = λ below. Added-then a b c xs ys (first (omega arith)) (second below)

-- no turn, further turns, one turn

pub turned-nothing : (n : ℕ) (a : Option (List Turn)) → Turned n n a a []
turned-nothing n None = record { gave = λ below. refl; later = omega arith; counted = omega arith }
turned-nothing n (Some l) = record { gave = λ below. refl; later = omega arith; counted = omega arith }

pub turned-then : (l m n : ℕ) (a b c : Option (List Turn)) (xs ys : List Turn) → Turned l m a b xs → Turned m n b c ys → Turned l n a c (ys ++ xs)
turned-then l m n a b c xs ys one two = record {
  gave = GaveTurns-then m n a b c xs ys two.later one.gave two.gave;
  later = omega (arith, one.later, two.later);
  counted = omega (arith, one.counted, two.counted, length-append ys xs);
}

pub turned-by : (m n : ℕ) (b c : Option (List Turn)) (t : Turn) → GaveTurns n b c (t ∷ []) → m ≤ n → n ≡ min (m + 1) (2 ^ 64 - 1) → Turned m n b c (t ∷ [])
turned-by m n b c t gave later e = record { gave = gave; later = later; counted = omega (arith, e) }
