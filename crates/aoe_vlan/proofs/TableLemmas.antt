-- The table of a VLAN, and what is learnt.
use Rattle.std.proofs.Common.{◌≡◌, ◌≤◌, ◌<◌, ◌||◌, ◌+◌, cond, nat_eq, nat_lt, ℕ, zero, suc, slice_set, get_or, eq-eqb, ne_eqb, option_map, option_and_then, inl, inr, Bool, true, false, List, [], ◌∷◌, ◌++◌, length, position, Option, Some, None, is_some, true≢false, take, refl, sym, ap, ◌∙◌, arith, lt-ltb, le-ltb}
use Rattle.std.specs.Prelude.{IfSome, IsSome}
use Rattle.std.specs.List.{list_any, position_or_len}
use Rattle.std.specs.Map.{keys_of}
use Rattle.std.proofs.lemmas.Bool.{cases_Bool, cases_eq, or_from, or_right}
use Rattle.std.proofs.lemmas.List.{take_all, take_more}
use Rattle.std.proofs.lemmas.List.Folds.{list_any-append}
use Rattle.std.proofs.lemmas.Grind.{get_or-set_at}
use Rattle.std.proofs.lemmas.List.Quantifiers.{position-Some}
use Rattle.std.proofs.lemmas.Map.Made.{is_some-lookup}
use Rattle.indexmap.specs.IndexMap.{insert_entry, set_value_at}
use Rattle.indexmap.proofs.MapLemmas.{Found-position, insert_entry-first, some_index}
use Rattle.aoe_base.specs.Addresses.{same_address}
use Rattle.aoe_base.specs.declared.address.Mac.{Mac}
use Rattle.aoe_vlan.specs.Tables.{AreBlank, AreKept, Stations, Table, found, found_in, learnt_in, moved, stations_of}

-- the address stands there, or there is room, or neither

pub there-by : (es : Stations) (a : Mac) (i : ℕ) → position (same_address a) (keys_of es) ≡ Some i → list_any (same_address a) (keys_of es) ≡ true
there-by es a i e = sym (is_some-lookup (same_address a) es) ∙ sym (some_index (same_address a) es) ∙ ap is_some e

pub moved-found : (es : Stations) (a : Mac) (p i : ℕ) → position (same_address a) (keys_of es) ≡ Some i → set_value_at es i p ≡ moved es a p
moved-found es a p i e =
    sym (insert_entry-first same_address a p es i (Found-position (same_address a) es i e).first)
    ∙ ap (λ t. cond t (insert_entry same_address es a p) es) (sym (or_right (nat_lt (length es) 256) _ (there-by es a i e)))

pub moved-new : (es : Stations) (a : Mac) (p : ℕ) → length es < 256 → insert_entry same_address es a p ≡ moved es a p
moved-new es a p few = rw (lt-ltb (length es) 256 few) refl

pub moved-full : (es : Stations) (a : Mac) (p : ℕ) → 256 ≤ length es → list_any (same_address a) (keys_of es) ≡ false → es ≡ moved es a p
moved-full es a p full absent = rw (le-ltb (length es) 256 full, absent) refl

-- the table of a VLAN among all

-- the first table of a VLAN
pub stations-first : (vid : ℕ) (ts : List Table) (i : ℕ) (d : Table) → i < length ts → nat_eq (get_or ts i d).vid vid ≡ true
    → ((k : ℕ) → k < i → nat_eq (get_or ts k d).vid vid ≡ false)
    → stations_of vid ts ≡ Some (get_or ts i d).stations
stations-first vid [] i d lt same before = absurd (omega arith)
stations-first vid (t ∷ ts) zero d lt same before = rw same refl
stations-first vid (t ∷ ts) (suc i) d lt same before = rw (before 0 (omega arith))
    (stations-first vid ts i d (omega (arith, lt)) same (λ k below. before (suc k) (omega (arith, below))))

pub learnt-first : (vid : ℕ) (a : Mac) (p : ℕ) (ts : List Table) (i : ℕ) (d : Table) → i < length ts → nat_eq (get_or ts i d).vid vid ≡ true
    → ((k : ℕ) → k < i → nat_eq (get_or ts k d).vid vid ≡ false)
    → slice_set ts i (record (get_or ts i d) { stations = moved (get_or ts i d).stations a p }) ≡ learnt_in vid a p ts
learnt-first vid a p [] i d lt same before = absurd (omega arith)
learnt-first vid a p (t ∷ ts) zero d lt same before = rw same refl
learnt-first vid a p (t ∷ ts) (suc i) d lt same before =
    rw (before 0 (omega arith))
    (ap (λ (l : List Table). t ∷ l) (learnt-first vid a p ts i d (omega (arith, lt)) same (λ k below. before (suc k) (omega (arith, below)))))

pub there-first : (vid : ℕ) (ts : List Table) (i : ℕ) → position (λ t. nat_eq t.vid vid) ts ≡ Some i → IsSome (stations_of vid ts)
there-first vid [] i e = absurd (cc)
there-first vid (t ∷ ts) i e =
    let p = position-Some (λ (u : Table). nat_eq u.vid vid) (t ∷ ts) i t e in
    ap is_some (stations-first vid (t ∷ ts) i t p.0 p.1 p.2)

pub there-some : (vid : ℕ) (ts : List Table) → is_some (position (λ t. nat_eq t.vid vid) ts) ≡ true → IsSome (stations_of vid ts)
there-some vid ts e = by (position (λ t. nat_eq t.vid vid) ts) refl e
  where
    by : (o : Option ℕ) → position (λ t. nat_eq t.vid vid) ts ≡ o → is_some o ≡ true → IsSome (stations_of vid ts)
    by None p some = absurd (cc)
    by (Some i) p some = there-first vid ts i p

-- a VLAN with a table is found
within-first : (vid : ℕ) (ts : List Table) → IsSome (stations_of vid ts) → position_or_len (λ t. nat_eq t.vid vid) ts < length ts
within-first vid [] there = absurd (cc)
within-first vid (t ∷ ts) there = elim (cases_Bool (nat_eq t.vid vid)) [
  | inl same ↦ rw same (omega arith)
  | inr other ↦ rw other (omega (arith, within-first vid ts (rw other at there)))
]

pub has-first : (vid : ℕ) (ts : List Table) → IsSome (stations_of vid ts) → position (λ t. nat_eq t.vid vid) ts ≡ None → ⊥
has-first vid ts there e =
    let at : ℕ = position_or_len (λ (t : Table). nat_eq t.vid vid) ts in
    let some : Some at ≡ None = ap (λ b. cond b (Some at) None) (sym (lt-ltb at (length ts) (within-first vid ts there))) ∙ e in
    cc

-- one more table

stations-more : (vid : ℕ) (ts : List Table) (t : Table) → IsSome (stations_of vid ts) → stations_of vid (ts ++ t ∷ []) ≡ stations_of vid ts
stations-more vid [] t some = absurd (cc)
stations-more vid (u ∷ ts) t some = elim (cases_Bool (nat_eq u.vid vid)) [
  | inl same ↦ rw same refl
  | inr other ↦ rw other (stations-more vid ts t (rw other at some))
]

pub kept-more : (ts : List Table) (t : Table) → AreKept ts (ts ++ t ∷ [])
kept-more ts t vid some = ap is_some (stations-more vid ts t some) ∙ some

pub there-more : (ts : List Table) (t : Table) → IsSome (stations_of t.vid (ts ++ t ∷ []))
there-more [] t = rw (eq-eqb t.vid t.vid refl) refl
there-more (u ∷ ts) t = elim (cases_Bool (nat_eq u.vid t.vid)) [
  | inl same ↦ rw same refl
  | inr other ↦ rw other (there-more ts t)
]

pub blank-more : (ts : List Table) (t : Table) → AreBlank ts → t.stations ≡ [] → AreBlank (ts ++ t ∷ [])
blank-more ts t blank none vid = all ts (blank vid)
  where
    all : (l : List Table) → IfSome (stations_of vid l) (λ s. s ≡ []) → IfSome (stations_of vid (l ++ t ∷ [])) (λ s. s ≡ [])
    all [] is = elim (cases_Bool (nat_eq t.vid vid)) [
      | inl same ↦ rw same none
      | inr other ↦ rw other tt
    ]
    all (u ∷ l) is = elim (cases_Bool (nat_eq u.vid vid)) [
      | inl same ↦ rw same (rw same at is)
      | inr other ↦ rw other (all l (rw other at is))
    ]

-- an address was learnt

pub stations-same : (vid : ℕ) (a : Mac) (p : ℕ) (ts : List Table) → stations_of vid (learnt_in vid a p ts) ≡ option_map (λ s. moved s a p) (stations_of vid ts)
stations-same vid a p [] = refl
stations-same vid a p (t ∷ ts) = elim (cases_Bool (nat_eq t.vid vid)) [
  | inl same ↦ rw (same, same) refl
  | inr other ↦ rw (other, other) (stations-same vid a p ts)
]

pub stations-other : (vid w : ℕ) (a : Mac) (p : ℕ) (ts : List Table) → nat_eq vid w ≡ false → stations_of w (learnt_in vid a p ts) ≡ stations_of w ts
stations-other vid w a p [] apart = refl
stations-other vid w a p (t ∷ ts) apart = elim (cases_eq t.vid vid) [
  | inl same ↦
      let not-w : nat_eq t.vid w ≡ false = rw same apart in
      rw (eq-eqb t.vid vid same, not-w) refl
  | inr other ↦ rw (ne_eqb t.vid vid other) (ap (λ o. cond (nat_eq t.vid w) (Some t.stations) o) (stations-other vid w a p ts apart))
]

module _ (vid : ℕ) (a : Mac) (p : ℕ) (ts : List Table) (i : ℕ) (r new : Table) (first : position (λ t. nat_eq t.vid vid) ts ≡ Some i) (is : r ≡ get_or ts i r)
    (learnt : new ≡ record { vid = r.vid; stations = moved r.stations a p }) where
  at-first : (i < length ts) × (nat_eq (get_or ts i r).vid vid ≡ true) × ((k : ℕ) → k < i → nat_eq (get_or ts k r).vid vid ≡ false)
  at-first = position-Some (λ (t : Table). nat_eq t.vid vid) ts i r first

  pub learnt-found : slice_set ts i new ≡ learnt_in vid a p ts
  learnt-found =
      let same : new ≡ record { vid = (get_or ts i r).vid; stations = moved (get_or ts i r).stations a p } =
      learnt ∙ ap (λ (t : Table). record { vid = t.vid; stations = moved t.stations a p }) is in
      ap (λ (t : Table). slice_set ts i t) same ∙ learnt-first vid a p ts i r at-first.0 at-first.1 at-first.2

  pub place-found : (u : Table) (dest : Mac) → u ≡ get_or (slice_set ts i new) i u → found u.stations dest ≡ found_in vid (slice_set ts i new) dest
  place-found u dest at =
      let now : u ≡ new = at ∙ get_or-set_at ts i i new u refl at-first.0 in
      let before : stations_of vid ts ≡ Some r.stations =
      stations-first vid ts i r at-first.0 at-first.1 at-first.2 ∙ ap (λ (t : Table). Some t.stations) (sym is) in
      let after : stations_of vid (slice_set ts i new) ≡ Some u.stations =
      ap (λ l. stations_of vid l) learnt-found ∙ stations-same vid a p ts ∙ ap (λ o. option_map (λ s. moved s a p) o) before
      ∙ ap (λ (t : Table). Some t.stations) (sym (now ∙ learnt)) in
      ap (λ o. option_and_then (λ s. found s dest) o) (sym after)

-- each VLAN of the first so many has a table, by a test of what is of a VLAN

abbrev pub Covers : {A : Type 0} → (ℕ → A → Bool) → List A → ℕ → List Table → Type 0
Covers test xs i ts = (vid : ℕ) → list_any (test vid) (take i xs) ≡ true → IsSome (stations_of vid ts)

pub covers-none : {A : Type 0} (test : ℕ → A → Bool) (xs : List A) (ts : List Table) → Covers test xs 0 ts
covers-none test xs ts vid e = absurd (cc)

pub covers-more : {A : Type 0} (test : ℕ → A → Bool) (xs : List A) (i : ℕ) (x d : A) (ts us : List Table) → i < length xs → get_or xs i d ≡ x
    → AreKept ts us → ((vid : ℕ) → test vid x ≡ true → IsSome (stations_of vid us)) → Covers test xs i ts
    → Covers test xs (i + 1) us
covers-more test xs i x d ts us lt is kept one covers vid e =
    let grown : take (i + 1) xs ≡ take i xs ++ x ∷ [] = take_more xs i d lt ∙ ap (λ y. take i xs ++ y ∷ []) is in
    let any : (list_any (test vid) (take i xs) || (test vid x || false)) ≡ true =
    sym (list_any-append (test vid) (take i xs) (x ∷ [])) ∙ ap (λ l. list_any (test vid) l) (sym grown) ∙ e in
    elim (cases_Bool (list_any (test vid) (take i xs))) [
      | inl there ↦ kept vid (covers vid there)
      | inr none ↦ elim (cases_Bool (test vid x)) [
        | inl here ↦ one vid here
        | inr n ↦ absurd (true≢false (sym any ∙ or_from _ _ none (or_from (test vid x) false n refl)))
      ]
    ]

pub covers-all : {A : Type 0} (test : ℕ → A → Bool) (xs : List A) (i : ℕ) (ts : List Table) → length xs ≤ i → Covers test xs i ts → (vid : ℕ)
    → list_any (test vid) xs ≡ true → IsSome (stations_of vid ts)
covers-all test xs i ts end covers vid e = covers vid (ap (λ l. list_any (test vid) l) (take_all i xs end) ∙ e)
