-- The places of a buffer and the table of their numbers.
use Rattle.std.proofs.Common.{◌≡◌, ◌≢◌, ◌≤◌, ◌<◌, ◌+◌, ◌++◌, ℕ, zero, suc, true, false, List, [], ◌∷◌, Option, Some, None, is_some, length, nat_eq, take, set, get_or, if◌then◌else◌, refl, sym, arith, ◌∙◌, ap, inl, inr}
use Rattle.std.specs.List.{IsDistinct, list_any, position, position_or_len}
use Rattle.std.proofs.lemmas.Bool.{cases_Bool, cases_eq, eq-eqb, eqb-true, ne_eqb}
use Rattle.std.proofs.lemmas.Bool.Decides.{nat_tests}
use Rattle.std.proofs.lemmas.List.{get_or-map, get_or-take, length-map, length-take-le, map-append, take-take, take_more}
use Rattle.std.proofs.lemmas.List.Quantifiers.{position-Some}
use Rattle.std.proofs.lemmas.List.Elements.{All-cons}
use Rattle.indexmap.specs.IndexSet.{insert_key}
use Rattle.aoe_cache.specs.declared.place.HeldSector.{HeldSector}
use Rattle.aoe_cache.specs.declared.buffer.Buffer.{Buffer}
use Rattle.aoe_cache.specs.Held.{AreBelow, IsAscending, held_for, held_of, numbers_of, ordered, placed, with_written}
use Rattle.aoe_cache.specs.Cache.{AreWhole, IsIndexed}
use Rattle.aoe_cache.proofs.Ascending.{ascending_low, ascending_written, count_absent, count_held, count_le, held_high, length-with_written, stands_at}
use Rattle.aoe_cache.proofs.Ordered.{ascending_ordered, ascending_same, held_at, held_ordered, length-ordered, whole_first, whole_rest, written_other, written_same}
use Rattle.aoe_cache.proofs.Sectors.{cases_held}

-- sectors, with one put in the place of that with its number, or behind them
abbrev pub put_in : HeldSector → List HeldSector → List HeldSector
put_in e [] = e ∷ []
put_in e (h ∷ hs) = if nat_eq e.at h.at then e ∷ hs else h ∷ put_in e hs

-- the keys of the table come with it

insert_later : (n k : ℕ) (ks : List ℕ) → n ≢ k → insert_key nat_eq (k ∷ ks) n ≡ k ∷ insert_key nat_eq ks n
insert_later n k ks other = elim (cases_Bool (list_any (nat_eq n) ks)) [
  | inl there ↦ rw (ne_eqb n k other, there)
  | inr absent ↦ rw (ne_eqb n k other, absent)
]

pub numbers_put : (e : HeldSector) (hs : List HeldSector) → numbers_of (put_in e hs) ≡ insert_key nat_eq (numbers_of hs) e.at
numbers_put e [] = refl
numbers_put e (h ∷ hs) = elim (cases_eq e.at h.at) [
  | inl same ↦ rw (eq-eqb _ _ same) (λ i. same i ∷ numbers_of hs)
  | inr other ↦ rw (insert_later e.at h.at (numbers_of hs) other, ne_eqb _ _ other) (λ i. h.at ∷ numbers_put e hs i)
]

-- and so do the places, where the sector goes to the index of its number
pub placed_put : (e : HeldSector) (ks : List ℕ) (places : List HeldSector) → ks ≡ numbers_of (take (length ks) places)
    → length (insert_key nat_eq ks e.at) ≤ length places
    → take (length (insert_key nat_eq ks e.at)) (set places (position_or_len (nat_eq e.at) ks) e) ≡ put_in e (take (length ks) places)
placed_put e [] [] is fits = absurd (omega (arith, fits))
placed_put e [] (p ∷ ps) is fits = refl
placed_put e (k ∷ ks) [] is fits = cc
placed_put e (k ∷ ks) (p ∷ ps) is fits =
    let at : k ≡ p.at = cc in
    let rest : ks ≡ numbers_of (take (length ks) ps) = cc in
    elim (cases_eq e.at k) [
      | inl same ↦ rw (eq-eqb e.at k same, eq-eqb e.at p.at (same ∙ at)) refl
      | inr other ↦
          let keys : insert_key nat_eq (k ∷ ks) e.at ≡ k ∷ insert_key nat_eq ks e.at = insert_later e.at k ks other in
          let next : 1 + position_or_len (nat_eq e.at) ks ≡ suc (position_or_len (nat_eq e.at) ks) = omega arith in
          let place : position_or_len (nat_eq e.at) (k ∷ ks) ≡ suc (position_or_len (nat_eq e.at) ks) = rw (ne_eqb e.at k other) next in
          rw (keys, place, ne_eqb e.at p.at (λ x. other (x ∙ sym at))) (λ i. p ∷ placed_put e ks ps rest (omega (arith, fits, ap length keys)) i)
    ]

-- the same as the code leaves them
pub put_stored : (e : HeldSector) {p : HeldSector} {ks more : List ℕ} {old now : List HeldSector} {index : ℕ} → p ≡ e → now ≡ old
    → ks ≡ numbers_of (take (length ks) old) → more ≡ insert_key nat_eq ks e.at
    → index ≡ position_or_len (nat_eq e.at) ks → length more ≤ length now → take (length more) (set now index p) ≡ put_in e (take (length ks) old)
put_stored e {ks = ks} {old = old} put same is keys place fits = rw (put, same, place, keys) (placed_put e ks old is (rw (← keys, ← same) fits))

pub length-insert_key : (e : HeldSector) (ks : List ℕ) (hs : List HeldSector) → ks ≡ numbers_of hs → length (insert_key nat_eq ks e.at) ≡ length (put_in e hs)
length-insert_key e ks hs is = rw (is, ← numbers_put e hs) (length-map (put_in e hs) (λ (h : HeldSector). h.at))

-- what stands for each number then

held_put_same : (e : HeldSector) (hs : List HeldSector) → held_for (put_in e hs) e.at ≡ Some e.bytes
held_put_same e [] = grind (arith, nat_tests)
held_put_same e (h ∷ hs) = grind (arith, nat_tests, held_put_same e hs)

held_put_other : (e : HeldSector) (hs : List HeldSector) (s : ℕ) → e.at ≢ s → held_for (put_in e hs) s ≡ held_for hs s
held_put_other e [] s ne = grind (arith, nat_tests)
held_put_other e (h ∷ hs) s ne = grind (arith, nat_tests, held_put_other e hs s ne)

whole_more : (h : HeldSector) (hs : List HeldSector) → length h.bytes ≡ 512 → AreWhole hs → AreWhole (h ∷ hs)
whole_more h hs one rest = All-cons (λ (x : HeldSector). length x.bytes ≡ 512) h hs one rest

pub whole_put : (e : HeldSector) (hs : List HeldSector) → length e.bytes ≡ 512 → AreWhole hs → AreWhole (put_in e hs)
whole_put e [] one whole = whole_more e [] one whole
whole_put e (h ∷ hs) one whole = elim (cases_eq e.at h.at) [
  | inl same ↦ rw (eq-eqb _ _ same) (whole_more e hs one (whole_rest h hs whole))
  | inr other ↦ rw (ne_eqb _ _ other) (whole_more h _ (whole_first h hs whole) (whole_put e hs one (whole_rest h hs whole)))
]

pub ordered_put : (e : HeldSector) (hs : List HeldSector) → length e.bytes ≡ 512 → AreWhole hs
    → ordered (put_in e hs) ≡ with_written e.at 1 e.bytes (ordered hs)
ordered_put e hs one whole =
    let order : IsAscending 0 (ordered hs) = ascending_ordered hs whole in
    let put : AreWhole (put_in e hs) = whole_put e hs one whole in
    ascending_same 0 _ _ (ascending_ordered _ put) (ascending_written e.at 1 e.bytes _ (omega (arith, one)) order)
    (λ s. held_ordered _ put s ∙ elim (cases_eq e.at s) [
      | inl same ↦ rw (← same) (held_put_same e hs ∙ sym (written_same e.at e.bytes _ order one))
      | inr other ↦ held_put_other e hs s other ∙ sym (held_ordered hs whole s) ∙ sym (written_other e.at e.bytes _ order one s other)
    ])

-- how many they are

length_absent : (e : HeldSector) (hs : List HeldSector) → held_for hs e.at ≡ None → length (put_in e hs) ≡ length hs + 1
length_absent e [] none = omega arith
length_absent e (h ∷ hs) none = grind (arith, nat_tests, length_absent e hs)

length_present : (e : HeldSector) (hs : List HeldSector) (b : List ℕ) → held_for hs e.at ≡ Some b → length (put_in e hs) ≡ length hs
length_present e [] b some = cc
length_present e (h ∷ hs) b some = grind (arith, nat_tests, length_present e hs b)

pub length-put_in : (e : HeldSector) (hs : List HeldSector) → AreWhole hs → IsDistinct nat_eq (numbers_of hs)
    → length (put_in e hs) ≡ length (with_written e.at 1 e.bytes (ordered hs))
length-put_in e hs whole once =
    let order : IsAscending 0 (ordered hs) = ascending_ordered hs whole in
    let same : held_for (ordered hs) e.at ≡ held_for hs e.at = held_ordered hs whole e.at in
    let size = length-with_written e.at 1 e.bytes (ordered hs) in
    let all = length-ordered hs whole once in
    elim (cases_held (held_for hs e.at)) [
      | inl none ↦ omega (arith, size, all, length_absent e hs none, count_absent 0 e.at _ order (same ∙ none), count_le e.at (ordered hs))
      | inr p ↦ omega (arith, size, all, length_present e hs p.0 p.1, count_held e.at p.0 0 _ order (same ∙ p.1), stands_at e.at p.0 0 _ order (same ∙ p.1))
    ]

-- what the table answers

any_held : (s : ℕ) (hs : List HeldSector) → list_any (nat_eq s) (numbers_of hs) ≡ is_some (held_for hs s)
any_held s [] = refl
any_held s (h ∷ hs) = grind (arith, nat_tests, any_held s hs)

none_from : (o : Option (List ℕ)) → is_some o ≡ false → o ≡ None
none_from None e = refl
none_from (Some p) e = cc

some_from : (o : Option (List ℕ)) → is_some o ≡ true → (p : List ℕ) × (o ≡ Some p)
some_from None e = absurd (cc)
some_from (Some p) e = (p, refl)

-- a buffer whose table has its numbers

module _ (b : Buffer) (is : IsIndexed b) where
  pub once_placed : IsDistinct nat_eq (numbers_of (placed b))
  once_placed = rw is.numbers at is.once

  used : length (placed b) ≡ length b.numbers.keys
  used = length-take-le (length b.numbers.keys) b.places.items is.has.used

  pub length-held : length (held_of b) ≡ length b.numbers.keys
  length-held = length-ordered (placed b) is.whole once_placed ∙ used

  pub held_order : IsAscending 0 (held_of b)
  held_order = ascending_ordered (placed b) is.whole

  held_any : (s : ℕ) → list_any (nat_eq s) b.numbers.keys ≡ is_some (held_for (held_of b) s)
  held_any s = (λ i. list_any (nat_eq s) (is.numbers i)) ∙ any_held s (placed b) ∙ (λ i. is_some (sym (held_ordered (placed b) is.whole s) i))

  pub not_held : (s : ℕ) → list_any (nat_eq s) b.numbers.keys ≡ false → held_for (held_of b) s ≡ None
  not_held s e = none_from _ (sym (held_any s) ∙ e)

  pub is_held : (s : ℕ) → list_any (nat_eq s) b.numbers.keys ≡ true → (p : List ℕ) × (held_for (held_of b) s ≡ Some p)
  is_held s e = some_from _ (sym (held_any s) ∙ e)

  -- what a search finds
  module _ (s i : ℕ) (p : HeldSector) (found : position (nat_eq s) b.numbers.keys ≡ Some i) (place : p ≡ get_or b.places.items i p) where
    within : i < length b.numbers.keys
    within = (position-Some (nat_eq s) b.numbers.keys i p.at found).0

    stands : get_or (placed b) i p ≡ p
    stands = get_or-take (length b.numbers.keys) b.places.items i p within ∙ sym place

    pub found_number : p.at ≡ s
    found_number =
        let same : s ≡ get_or b.numbers.keys i p.at = eqb-true s _ (position-Some (nat_eq s) b.numbers.keys i p.at found).1 in
        let number = get_or-map (λ (h : HeldSector). h.at) (placed b) i p p.at (omega (arith, within, used)) in
        sym (same ∙ (λ j. get_or (is.numbers j) i p.at) ∙ number ∙ (λ j. (stands j).at))

    pub found_held : held_for (held_of b) s ≡ Some p.bytes
    found_held =
        let one = rw stands at (held_at (placed b) i p once_placed (omega (arith, within, used))) in
        held_ordered (placed b) is.whole s ∙ (λ j. held_for (placed b) (sym found_number j)) ∙ one

-- the table made anew of places in order: one more number
below_first : (low : ℕ) (hs : List HeldSector) (i : ℕ) (d : HeldSector) → IsAscending low hs → i < length hs → AreBelow (get_or hs i d).at (take i hs)
below_first low [] i d order lt = absurd (omega arith)
below_first low (h ∷ hs) zero d order lt = tt
below_first low (h ∷ hs) (suc i) d order lt =
    let above = ascending_low (h.at + 1) hs i d order.2 (omega (arith, lt)) in
    (omega (arith, above), below_first (h.at + 1) hs i d order.2 (omega (arith, lt)))

pub index_more : (held i : ℕ) (places : List HeldSector) (p : HeldSector) → IsAscending 0 (take held places) → i < held → held ≤ length places
    → p ≡ get_or places i p → insert_key nat_eq (numbers_of (take i places)) p.at ≡ numbers_of (take (i + 1) places)
index_more held i places p order lt used is =
    let first : take i (take held places) ≡ take i places = take-take i held places (omega (arith, lt)) in
    let here : get_or (take held places) i p ≡ p = get_or-take held places i p lt ∙ sym is in
    let under = rw (first, here) at (below_first 0 (take held places) i p order (omega (arith, lt, length-take-le held places used))) in
    let absent : list_any (nat_eq p.at) (numbers_of (take i places)) ≡ false = any_held p.at _ ∙ ap is_some (held_high p.at p.at _ under (omega arith)) in
    let more : take (i + 1) places ≡ take i places ++ p ∷ [] = take_more places i p (omega (arith, lt, used)) ∙ (λ j. take i places ++ sym is j ∷ []) in
    rw (absent, more) (sym (map-append (λ (h : HeldSector). h.at) (take i places) (p ∷ [])))

pub length-first : (ks : List ℕ) (i : ℕ) (places : List HeldSector) → ks ≡ numbers_of (take i places) → i ≤ length places → length ks ≡ i
length-first ks i places is le = ap length is ∙ length-map (take i places) _ ∙ length-take-le i places le
