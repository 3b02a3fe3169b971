-- The choice of a path, over the marks of the paths.
use Rattle.std.proofs.Common.{ℕ, zero, suc, ◌≡◌, ◌+◌, ◌-◌, ◌*◌, ◌%◌, ◌<◌, inl, inr, List, [], ◌∷◌, length, map, take, drop, get_or, Bool, true, false, not, Option, Some, refl, sym, ap, ◌∙◌, arith}
use Rattle.std.specs.Prelude.{position, slice_get, unwrap_or, Contains}
use Rattle.std.specs.List.{prefix_len, position_or_len}
use Rattle.std.proofs.lemmas.List.{length-append, length-drop, length-map, length-take-le, get_or_append_left, get_or-append_right, get_or-drop, get_or-take, map-append, take-map}
use Rattle.std.proofs.lemmas.List.Sums.{fails_before_first, passes_at_first}
use Rattle.std.proofs.lemmas.Bool.{cases_lt, lt-ltb, not-true}
use Rattle.std.proofs.lemmas.Nat.{mod-mul-add}
use Rattle.std.proofs.lemmas.Option.{slice_get-get_or}
use Rattle.std.proofs.Math.Nat.{mod-eq_of_lt}
use Rattle.aoe_paths.specs.Path.{PathState}
use Rattle.aoe_paths.specs.PathTable.{in_turn, path_after, next_path}

prefix-map : (paths : List PathState) → prefix_len (λ mark. not (not mark)) (map (λ path. path.missed) paths) ≡ prefix_len (λ path. not (not path.missed)) paths
prefix-map [] = refl
prefix-map (path ∷ paths) = rw (prefix-map paths) refl

drop-map : (n : ℕ) (paths : List PathState) → drop n (map (λ path. path.missed) paths) ≡ map (λ path. path.missed) (drop n paths)
drop-map zero paths = refl
drop-map (suc n) [] = refl
drop-map (suc n) (path ∷ paths) = drop-map n paths

in_turn-map : (start : ℕ) (paths : List PathState) → in_turn start (map (λ path. path.missed) paths) ≡ map (λ path. path.missed) (in_turn start paths)
in_turn-map start paths =
    let front = take-map (λ (path : PathState). path.missed) start paths in
    let back = drop-map start paths in
    rw (front, back) (sym (map-append (λ (path : PathState). path.missed) (drop start paths) (take start paths)))

-- the first path without a mark, by the marks alone
position-map : (paths : List PathState) → position (λ mark. not mark) (map (λ path. path.missed) paths) ≡ position (λ path. not path.missed) paths
position-map paths = rw (prefix-map paths, length-map paths (λ (path : PathState). path.missed)) refl

pub next-is : (paths : List PathState) (chosen : Option ℕ) (count start steps next : ℕ) → count ≡ length paths → start ≡ path_after count chosen
    → steps ≡ unwrap_or (position (λ path. not path.missed) (in_turn start paths)) 0 → next ≡ (start + steps) % count
    → next ≡ next_path (map (λ path. path.missed) paths) chosen
next-is paths chosen count start steps next count_is start_is steps_is next_is =
    let marks = length-map paths (λ (path : PathState). path.missed) in
    let len : length (map (λ (path : PathState). path.missed) paths) ≡ count = marks ∙ sym count_is in
    let same : position (λ mark. not mark) (in_turn start (map (λ (path : PathState). path.missed) paths)) ≡ position (λ path. not path.missed)
    (in_turn start paths) =
    ap (position (λ mark. not mark)) (in_turn-map start paths) ∙ position-map (in_turn start paths) in
    rw (len, ← start_is, same, ← steps_is) next_is

-- an element of a list in cyclic order
get-in_turn : (start i : ℕ) (marks : List Bool) (d : Bool) → start < length marks → i < length marks
    → get_or (in_turn start marks) i d ≡ get_or marks ((start + i) % length marks) d
get-in_turn start i marks d inside below =
    let dropped : length (drop start marks) ≡ length marks - start = length-drop start marks in
    elim (cases_lt i (length marks - start)) [
      | inl front ↦
          let near : start + i < length marks = omega arith in
          let same : (start + i) % length marks ≡ start + i = mod-eq_of_lt near in
          rw same (get_or_append_left (drop start marks) (take start marks) d i (omega arith) ∙ get_or-drop start marks i d)
      | inr back ↦
          let far : start + i ≡ 1 * length marks + (start + i - length marks) = omega arith in
          let low : start + i - length marks < length marks = omega arith in
          let before : i - (length marks - start) < start = omega arith in
          let same : (start + i) % length marks ≡ start + i - length marks =
          ap (λ (n : ℕ). n % length marks) far ∙ mod-mul-add 1 (length marks) (start + i - length marks) low in
          let here : i - (length marks - start) ≡ start + i - length marks = omega arith in
          rw same (get_or-append_right (drop start marks) (take start marks) (length marks - start) i d dropped back
          ∙ get_or-take start marks (i - (length marks - start)) d before ∙ ap (λ (k : ℕ). get_or marks k d) here)
    ]

length-in_turn : (start : ℕ) (marks : List Bool) → start < length marks → length (in_turn start marks) ≡ length marks
length-in_turn start marks inside =
    omega (arith, length-append (drop start marks) (take start marks), length-drop start marks, length-take-le start marks (omega arith))

-- the place of an element, counted from another in cyclic order
place-in_turn : (start k : ℕ) (marks : List Bool) → start < length marks → k < length marks
    → (i : ℕ) × (i < length marks) × (get_or (in_turn start marks) i false ≡ get_or marks k false)
place-in_turn start k marks inside there =
    elim (cases_lt k start) [
      | inl before ↦
          let below : k + length marks - start < length marks = omega arith in
          let round : start + (k + length marks - start) ≡ 1 * length marks + k = omega arith in
          let same : (start + (k + length marks - start)) % length marks ≡ k = ap (λ (n : ℕ). n % length marks) round ∙ mod-mul-add 1 (length marks) k there in
          (k + length marks - start, below, get-in_turn start (k + length marks - start) marks false inside below ∙ ap (λ (n : ℕ). get_or marks n false) same)
      | inr after ↦
          let below : k - start < length marks = omega arith in
          let whole : start + (k - start) ≡ k = omega arith in
          let same : (start + (k - start)) % length marks ≡ k = ap (λ (n : ℕ). n % length marks) whole ∙ mod-eq_of_lt there in
          (k - start, below, get-in_turn start (k - start) marks false inside below ∙ ap (λ (n : ℕ). get_or marks n false) same)
    ]

-- where a path has no mark, the one that is chosen has none
pub next-unmarked : (marks : List Bool) (chosen : Option ℕ) → path_after (length marks) chosen < length marks → Contains marks false
    → slice_get marks (next_path marks chosen) ≡ Some false
next-unmarked marks chosen inside free =
    let start = path_after (length marks) chosen in
    let turn = in_turn start marks in
    let first = position_or_len (λ mark. not mark) turn in
    let long : length turn ≡ length marks = length-in_turn start marks inside in
    let there = place-in_turn start free.0 marks inside free.1 in
    let unmarked : get_or turn there.0 false ≡ false = there.2 ∙ free.2 in
    let found : first < length turn = elim (cases_lt first (length turn)) [
      | inl yes_found ↦ yes_found
      | inr past ↦
          let marked : not (get_or turn there.0 false) ≡ false =
          fails_before_first (λ mark. not mark) turn there.0 false (omega (arith, there.1, long, past)) in
          let both : not false ≡ false = ap not (sym unmarked) ∙ marked in
          absurd cc
    ] in
    let passes : not (get_or turn first false) ≡ true = passes_at_first (λ mark. not mark) turn false found in
    let at : position (λ mark. not mark) turn ≡ Some first = rw (lt-ltb first (length turn) found) refl in
    let next : next_path marks chosen ≡ (start + first) % length marks = rw at refl in
    let below : (start + first) % length marks < length marks = omega arith in
    let same : get_or marks ((start + first) % length marks) false ≡ get_or turn first false =
    sym (get-in_turn start first marks false inside (omega (arith, found, long))) in
    let free_there : get_or turn first false ≡ false = not-true (get_or turn first false) passes in
    ap (λ (n : ℕ). slice_get marks n) next ∙ slice_get-get_or marks ((start + first) % length marks) false below
    ∙ ap (λ (mark : Bool). Some mark) (same ∙ free_there)
