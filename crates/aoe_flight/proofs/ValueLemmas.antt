-- The values of a slab by their slots, and their changes one by one.
use Rattle.std.proofs.Common.{ℕ, zero, suc, ◌≡◌, ◌+◌, ◌<◌, ◌≤◌, Bool, true, false, List, [], ◌∷◌, length, length-set, map, get_or, set, Option, Some, None, inl, inr, refl, sym, ap, ◌∙◌, arith}
use Rattle.std.specs.Prelude.{is_some, Contains, All, IfNone, IfSome, option_map}
use Rattle.std.specs.List.{find, list_any}
use Rattle.std.proofs.lemmas.Bool.{cases_Bool, cases_eq, cases_lt, or_right}
use Rattle.std.proofs.lemmas.List.Elements.{All-cons, All-nil}
use Rattle.slab.specs.Slab.{get, values, with_value, Slab}
use Rattle.slab.proofs.SlabLemmas.{Contains-cons, Updates-with_value}
use Rattle.aoe_flight.specs.declared.outstanding.Outstanding.{Outstanding}
use Rattle.aoe_flight.specs.Outstanding.{best, is_over, live}
use Rattle.aoe_flight.specs.Table.{IsFirstSlot}
use Rattle.aoe_flight.proofs.InsertLemmas.{no-values}
use Rattle.aoe_flight.proofs.SlotLemmas.{held, live-shorter}

pub find-at : (p : Outstanding → Bool) (slots : List (Option Outstanding)) (k : ℕ) (c : Outstanding) → get_or slots k None ≡ Some c → p c ≡ true
    → ((j : ℕ) (d : Outstanding) → j < k → get_or slots j None ≡ Some d → p d ≡ false) → find p (held slots) ≡ Some c
find-at p [] k c is passes first = absurd cc
find-at p (o ∷ slots) zero c is passes first = rw (is, passes)
find-at p (None ∷ slots) (suc k) c is passes first = find-at p slots k c is passes (λ j d below at. first (suc j) d (omega arith) at)
find-at p (Some d ∷ slots) (suc k) c is passes first =
    rw (first 0 d (omega arith) refl) (find-at p slots k c is passes (λ j e below at. first (suc j) e (omega arith) at))

pub find-none : (p : Outstanding → Bool) (slots : List (Option Outstanding)) → ((k : ℕ) (c : Outstanding) → get_or slots k None ≡ Some c → p c ≡ false)
    → find p (held slots) ≡ None
find-none p [] out = refl
find-none p (None ∷ slots) out = find-none p slots (λ k c at. out (suc k) c at)
find-none p (Some d ∷ slots) out = rw (out 0 d refl) (find-none p slots (λ k c at. out (suc k) c at))

pub all-held : (P : Outstanding → Type 0) (slots : List (Option Outstanding)) → ((k : ℕ) (c : Outstanding) → get_or slots k None ≡ Some c → P c)
    → All P (held slots)
all-held P [] each = All-nil P
all-held P (None ∷ slots) each = all-held P slots (λ k c at. each (suc k) c at)
all-held P (Some d ∷ slots) each = All-cons P d (held slots) (each 0 d refl) (all-held P slots (λ k c at. each (suc k) c at))

pub held-at : (slots : List (Option Outstanding)) (k : ℕ) (c : Outstanding) → get_or slots k None ≡ Some c → Contains (held slots) c
held-at [] k c is = absurd cc
held-at (o ∷ slots) zero c is = rw is (0, omega arith, refl)
held-at (None ∷ slots) (suc k) c is = held-at slots k c is
held-at (Some d ∷ slots) (suc k) c is = Contains-cons d c (held slots) (held-at slots k c is)

pub any-held : (p : Outstanding → Bool) (slots : List (Option Outstanding)) (k : ℕ) (c : Outstanding) → get_or slots k None ≡ Some c → p c ≡ true
    → list_any p (held slots) ≡ true
any-held p [] k c is passes = absurd cc
any-held p (o ∷ slots) zero c is passes = rw (is, passes)
any-held p (None ∷ slots) (suc k) c is passes = any-held p slots k c is passes
any-held p (Some d ∷ slots) (suc k) c is passes = or_right (p d) _ (any-held p slots k c is passes)

pub none-held : (p : Outstanding → Bool) (slots : List (Option Outstanding)) → ((k : ℕ) (c : Outstanding) → get_or slots k None ≡ Some c → p c ≡ false)
    → list_any p (held slots) ≡ false
none-held p [] out = refl
none-held p (None ∷ slots) out = none-held p slots (λ k c at. out (suc k) c at)
none-held p (Some d ∷ slots) out = rw (out 0 d refl) (none-held p slots (λ k c at. out (suc k) c at))

some-none : (f : Outstanding → Outstanding) (o : Option Outstanding) → None ≡ option_map f o → o ≡ None
some-none f None is = refl
some-none f (Some c) is = absurd cc

mapped-held : (f : Outstanding → Outstanding) (xs ys : List (Option Outstanding))
    → ((k : ℕ) → get_or ys k None ≡ option_map f (get_or xs k None)) → held ys ≡ map f (held xs)
mapped-held f [] ys each = no-values ys each
mapped-held f (o ∷ xs) [] each = ap (map f) (sym (no-values (o ∷ xs) (λ k. some-none f (get_or (o ∷ xs) k None) (each k))))
mapped-held f (None ∷ xs) (n ∷ ys) each = let first : n ≡ None = each 0 in rw first (mapped-held f xs ys (λ k. each (suc k)))
mapped-held f (Some c ∷ xs) (n ∷ ys) each = let first : n ≡ Some (f c) = each 0 in rw (first, mapped-held f xs ys (λ k. each (suc k)))

-- one that rested out isn't missed
pub dropped-live : (rest now : ℕ) (slots : List (Option Outstanding)) (k : ℕ) (c : Outstanding) → get_or slots k None ≡ Some c → is_over rest now c ≡ true
    → live rest now (held (set slots k None)) ≡ live rest now (held slots)
dropped-live rest now [] k c is out = absurd cc
dropped-live rest now (o ∷ slots) zero c is out = rw (is, out)
dropped-live rest now (None ∷ slots) (suc k) c is out = dropped-live rest now slots k c is out
dropped-live rest now (Some d ∷ slots) (suc k) c is out = rw (dropped-live rest now slots k c is out)

-- the commands in the slots below one have their change
pub record Changed (f : Outstanding → Outstanding) (old new : Slab Outstanding) (from : ℕ) : Type 0 where
  pub below : (k : ℕ) → k < from → get new k ≡ option_map f (get old k)
  pub above : (k : ℕ) → from ≤ k → get new k ≡ get old k
  pub capacity : new.capacity ≡ old.capacity
  pub long : length new.slots ≡ length old.slots

unmoved : (f : Outstanding → Outstanding) (p : Outstanding → Bool) (o : Option Outstanding) → ((d : Outstanding) → p d ≡ false → f d ≡ d)
    → ((d : Outstanding) → o ≡ Some d → p d ≡ false) → o ≡ option_map f o
unmoved f p None stays out = refl
unmoved f p (Some d) stays out = rw (stays d (out d refl))

pub changed-more : {f : Outstanding → Outstanding} {p : Outstanding → Bool} {old now : Slab Outstanding} {from slot : ℕ} {c : Outstanding}
    (next : Slab Outstanding) (d : Outstanding)
    → ((e : Outstanding) → p e ≡ false → f e ≡ e) → f c ≡ d
    → Changed f old now from → IsFirstSlot p now from slot c → next ≡ with_value now slot d → Changed f old next (slot + 1)
changed-more {f} {p} {old} {now} {from} {slot} {c} next d stays is changed first next_is =
    let there : get now slot ≡ Some c = first.there in
    let updates = Updates-with_value now slot d (rw there refl) in
    rw next_is (record {
      below = λ k less. elim (cases_eq k slot) [
        | inl same ↦ rw (same, updates.changed, ← changed.above slot first.behind, there, is)
        | inr other ↦ updates.others k other ∙ elim (cases_lt k from) [
          | inl under ↦ changed.below k under
          | inr over ↦
              let same = changed.above k over in
              same ∙ unmoved f p (get old k) stays (λ e at. first.first k e over (omega (arith, less, other)) (same ∙ at))
        ]
      ];
      above = λ k over. updates.others k (λ same. absurd (omega (arith, over, same))) ∙ changed.above k (omega (arith, over, first.behind));
      capacity = changed.capacity;
      long = length-set now.slots slot (Some d) ∙ changed.long;
    })

pub changed-all : (f : Outstanding → Outstanding) (p : Outstanding → Bool) (old now : Slab Outstanding) (from : ℕ) → ((e : Outstanding) → p e ≡ false → f e ≡ e)
    → Changed f old now from → ((k : ℕ) (c : Outstanding) → from ≤ k → get now k ≡ Some c → p c ≡ false) → values now ≡ map f (values old)
changed-all f p old now from stays changed none =
    mapped-held f old.slots now.slots (λ k. elim (cases_lt k from) [
      | inl under ↦ changed.below k under
      | inr over ↦ let same = changed.above k over in same ∙ unmoved f p (get old k) stays (λ e at. none k e over (same ∙ at))
    ])

-- nothing passes, so nothing is the best
pub best-nothing : (test : Outstanding → Bool) (before : Outstanding → Outstanding → Bool) (commands : List Outstanding) → All (λ c. test c ≡ false) commands
    → best test before None commands ≡ None
best-nothing test before [] none = refl
best-nothing test before (c ∷ commands) none = rw (none 0 c (omega arith)) (best-nothing test before commands (λ k d below. none (suc k) d (omega arith)))

live-less : (rest now : ℕ) (slots : List (Option Outstanding)) (k : ℕ) (c : Outstanding) → get_or slots k None ≡ Some c → is_over rest now c ≡ true
    → length (live rest now (held slots)) < length (held slots)
live-less rest now [] k c is out = absurd cc
live-less rest now (o ∷ slots) zero c is out = rw (is, out) (omega (arith, live-shorter rest now (held slots)))
live-less rest now (None ∷ slots) (suc k) c is out = live-less rest now slots k c is out
live-less rest now (Some d ∷ slots) (suc k) c is out =
    let less = live-less rest now slots k c is out in
    elim (cases_Bool (is_over rest now d)) [ inl over ↦ rw over (omega arith) | inr stays ↦ rw stays (omega arith) ]

pub live-all : (rest now : ℕ) (commands : List Outstanding) → All (λ c. is_over rest now c ≡ false) commands → live rest now commands ≡ commands
live-all rest now [] none = refl
live-all rest now (c ∷ commands) none =
    rw (none 0 c (omega arith), live-all rest now commands (λ k d below. none (suc k) d (omega arith)))

pub any-over : (rest now : ℕ) (slab : Slab Outstanding) (r : Option (ℕ × Outstanding)) (b : Bool) → b ≡ is_some r
    → IfSome r (λ found. (get slab found.0 ≡ Some found.1) × (is_over rest now found.1 ≡ true))
    → b ≡ true → length (live rest now (values slab)) < length (values slab)
any-over rest now slab None b is some yes_some = absurd cc
any-over rest now slab (Some found) b is some yes_some = live-less rest now slab.slots found.0 found.1 some.0 some.1

pub none-over : (rest now : ℕ) (slab : Slab Outstanding) (r : Option (ℕ × Outstanding)) (b : Bool) → b ≡ is_some r
    → IfNone r (All (λ c. is_over rest now c ≡ false) (values slab)) → b ≡ false → live rest now (values slab) ≡ values slab
none-over rest now slab None b is none out = live-all rest now (values slab) none
none-over rest now slab (Some found) b is none out = absurd cc
