-- What is learnt from one input more.
use Rattle.std.proofs.Common.{◌≡◌, ◌≤◌, ◌<◌, ◌||◌, not, cond, nat_lt, ℕ, zero, suc, true, false, List, [], ◌∷◌, ◌++◌, length, map, take, Some, None, refl, sym, ap, subst, ◌∙◌, arith, lt-ltb, le-ltb, inl, inr, length-append, length-take, true≢false}
use Rattle.std.specs.List.{list_any}
use Rattle.std.specs.Map.{keys_of, lookup}
use Rattle.std.proofs.lemmas.Bool.{and_from, and_parts, cases_Bool, cases_lt, not-true, not_from_false, or_from, or_left, or_parts, or_right}
use Rattle.std.proofs.lemmas.List.{length-map, take_all, take-append-le}
use Rattle.indexmap.specs.IndexMap.{insert_entry}
use Rattle.aoe_base.specs.Addresses.{all_unique, holds, same_address, source_of}
use Rattle.aoe_base.specs.declared.address.Mac.{Mac}
use Rattle.aoe_base.proofs.AddressLemmas.{same-address, same_address-comm, same_address-refl}
use Rattle.aoe_lists.specs.Addresses.{first_places}
use Rattle.aoe_lists.proofs.AddressLemmas.{all_unique-first_places, first_places-append, holds-first_places}
use Rattle.aoe_vlan.specs.Switched.{Passing, latest, learnt, place, sources}
use Rattle.aoe_vlan.specs.Tables.{Stations, found, moved, taught}

-- addresses, each with what a function gives it
abbrev with : (Mac → ℕ) → List Mac → Stations
with f list = map (λ a. (a, f a)) list

keys-with : (f : Mac → ℕ) (list : List Mac) → keys_of (with f list) ≡ list
keys-with f [] = refl
keys-with f (b ∷ list) = ap (λ (l : List Mac). b ∷ l) (keys-with f list)

any-holds : (list : List Mac) (a : Mac) → list_any (same_address a) list ≡ holds list a
any-holds [] a = refl
any-holds (b ∷ list) a = λ i. same_address-comm a b i || any-holds list a i

-- the port of a learnt address

found-with : (f : Mac → ℕ) (list : List Mac) (a : Mac) → lookup (same_address a) (with f list) ≡ cond (holds list a) (Some (f a)) None
found-with f [] a = refl
found-with f (b ∷ list) a = elim (cases_Bool (same_address b a)) [
  | inl same ↦ rw (same_address-comm a b, same) (ap (λ m. Some (f m)) (same-address b a same))
  | inr other ↦ rw (same_address-comm a b, other) (found-with f list a)
]

pub found-taught : (own : List Passing) (a : Mac) → found (taught own) a ≡ place own a
found-taught own a = found-with (λ b. latest b own) (learnt own) a

-- the first so many of a list

pub holds-take : (n : ℕ) (list : List Mac) (a : Mac) → holds list a ≡ false → holds (take n list) a ≡ false
holds-take zero list a e = refl
holds-take (suc n) [] a e = refl
holds-take (suc n) (b ∷ list) a e = let p = or_parts (same_address b a) (holds list a) e in or_from _ _ p.0 (holds-take n list a p.1)

unique-take : (n : ℕ) (list : List Mac) → all_unique list ≡ true → all_unique (take n list) ≡ true
unique-take zero list e = refl
unique-take (suc n) [] e = refl
unique-take (suc n) (b ∷ list) e =
    let p = and_parts (not (holds list b)) (all_unique list) e in
    and_from _ _ (not_from_false _ (holds-take n list b (not-true (holds list b) p.0))) (unique-take n list p.1)

-- one address gets another port

module _ (a : Mac) (p : ℕ) (f : Mac → ℕ) where
  -- the ports with it
  abbrev put : Mac → ℕ
  put b = cond (same_address a b) p (f b)

  same-with : (list : List Mac) → holds list a ≡ false → with f list ≡ with put list
  same-with [] e = refl
  same-with (b ∷ list) e =
      let q = or_parts (same_address b a) (holds list a) e in
      rw (same_address-comm a b, q.0) (ap (λ (l : Stations). (b, f b) ∷ l) (same-with list q.1))

  insert-there : (list : List Mac) → all_unique list ≡ true → holds list a ≡ true → insert_entry same_address (with f list) a p ≡ with put list
  insert-there [] e there = absurd (true≢false (sym there))
  insert-there (b ∷ list) e there =
      let q = and_parts (not (holds list b)) (all_unique list) e in
      elim (cases_Bool (same_address b a)) [
        | inl same ↦
            let absent : holds list a ≡ false = subst (λ m. holds list m ≡ false) (same-address b a same) (not-true (holds list b) q.0) in
            rw (same_address-comm a b, same) (ap (λ (l : Stations). (b, p) ∷ l) (same-with list absent))
        | inr other ↦
            let rest : holds list a ≡ true = rw other at there in
            rw (same_address-comm a b, other) (ap (λ (l : Stations). (b, f b) ∷ l) (insert-there list q.1 rest))
      ]

  insert-new : (list : List Mac) → holds list a ≡ false → insert_entry same_address (with f list) a p ≡ with put (list ++ a ∷ [])
  insert-new [] e = rw (same_address-refl a) refl
  insert-new (b ∷ list) e =
      let q = or_parts (same_address b a) (holds list a) e in
      rw (same_address-comm a b, q.0) (ap (λ (l : Stations). (b, f b) ∷ l) (insert-new list q.1))

  -- the first 256 addresses, with one more
  abbrev more : List Mac → List Mac
  more list = cond (holds list a) list (list ++ a ∷ [])

  -- an address is put, or isn't
  is-put : (list : List Mac) → (nat_lt (length list) 256 || holds list a) ≡ true → moved (with f list) a p ≡ insert_entry same_address (with f list) a p
  is-put list e = ap (λ t. cond t (insert_entry same_address (with f list) a p) (with f list)) (same-test list ∙ e)
    where
      same-test : (l : List Mac) → (nat_lt (length (with f l)) 256 || list_any (same_address a) (keys_of (with f l))) ≡ (nat_lt (length l) 256 || holds l a)
      same-test l i = nat_lt (length-map {B = Mac × ℕ} l (λ b. (b, f b)) i) 256 || (ap (list_any (same_address a)) (keys-with f l) ∙ any-holds l a) i

  not-put : (list : List Mac) → (nat_lt (length list) 256 || holds list a) ≡ false → moved (with f list) a p ≡ with f list
  not-put list e = ap (λ t. cond t (insert_entry same_address (with f list) a p) (with f list)) (same-test list ∙ e)
    where
      same-test : (l : List Mac) → (nat_lt (length (with f l)) 256 || list_any (same_address a) (keys_of (with f l))) ≡ (nat_lt (length l) 256 || holds l a)
      same-test l i = nat_lt (length-map {B = Mac × ℕ} l (λ b. (b, f b)) i) 256 || (ap (list_any (same_address a)) (keys-with f l) ∙ any-holds l a) i

  moved-there : (list : List Mac) → all_unique list ≡ true → holds (take 256 list) a ≡ true
      → moved (with f (take 256 list)) a p ≡ with put (take 256 (more list))
  moved-there list unique there =
      let whole : more list ≡ list = elim (cases_Bool (holds list a)) [
        | inl is ↦ rw is refl
        | inr n ↦ absurd (true≢false (sym there ∙ holds-take 256 list a n))
      ] in
      is-put (take 256 list) (or_right _ _ there) ∙ insert-there (take 256 list) (unique-take 256 list unique) there
      ∙ ap (λ l. with put (take 256 l)) (sym whole)

  moved-few : (list : List Mac) → holds (take 256 list) a ≡ false → length list < 256 → moved (with f (take 256 list)) a p ≡ with put (take 256 (more list))
  moved-few list absent few =
      let all : take 256 list ≡ list = take_all 256 list (omega (arith, few)) in
      let new : holds list a ≡ false = ap (λ l. holds l a) (sym all) ∙ absent in
      let one : more list ≡ list ++ a ∷ [] = rw new refl in
      let whole : take 256 (list ++ a ∷ []) ≡ list ++ a ∷ [] = take_all 256 (list ++ a ∷ []) (omega (arith, few, length-append list (a ∷ []))) in
      ap (λ l. moved (with f l) a p) all ∙ is-put list (or_left _ _ (lt-ltb (length list) 256 few)) ∙ insert-new list new ∙ ap (with put) (sym whole)
      ∙ ap (λ l. with put (take 256 l)) (sym one)

  moved-many : (list : List Mac) → holds (take 256 list) a ≡ false → 256 ≤ length list → moved (with f (take 256 list)) a p ≡ with put (take 256 (more list))
  moved-many list absent many =
      let full : 256 ≤ length (take 256 list) = omega (arith, many, length-take 256 list) in
      let same : take 256 (more list) ≡ take 256 list = elim (cases_Bool (holds list a)) [
        | inl is ↦ rw is refl
        | inr n ↦ rw n (take-append-le 256 list (a ∷ []) many)
      ] in
      not-put (take 256 list) (or_from _ _ (le-ltb (length (take 256 list)) 256 full) absent) ∙ same-with (take 256 list) absent ∙ ap (with put) (sym same)

module _ (a : Mac) (p : ℕ) (f : Mac → ℕ) where
  moved-all : (list : List Mac) → all_unique list ≡ true → moved (with f (take 256 list)) a p ≡ with (put a p f) (take 256 (more a p f list))
  moved-all list unique = elim (cases_Bool (holds (take 256 list) a)) [
    | inl there ↦ moved-there a p f list unique there
    | inr absent ↦ elim (cases_lt (length list) 256) [
      | inl few ↦ moved-few a p f list absent few
      | inr many ↦ moved-many a p f list absent many
    ]
  ]

pub taught-more : (own : List Passing) (i : Passing) → moved (taught own) (source_of i.frame) i.port ≡ taught (i ∷ own)
taught-more own i =
    let a : Mac = source_of i.frame in
    let f : Mac → ℕ = λ b. latest b own in
    let list : List Mac = first_places (sources own) in
    let grown : first_places (sources own ++ a ∷ []) ≡ more a i.port f list =
    first_places-append (sources own) a ∙ ap (λ t. cond t list (list ++ a ∷ [])) (sym (holds-first_places (sources own) a)) in
    moved-all a i.port f list (all_unique-first_places (sources own)) ∙ ap (λ l. with (put a i.port f) (take 256 l)) (sym grown)
