-- The order of keys, and which of them lie in a range.
use Rattle.std.proofs.Common.{ℕ, cond, ◌≡◌, ◌+◌, ◌-◌, ◌<◌, ◌≤◌, ◌&&◌, ◌||◌, ◌⊎◌, Bool, true, false, List, [], ◌∷◌, ◌++◌, get_or, length, take, max, inl, inr, refl, sym, ◌∙◌, arith, nat_eq, nat_le, nat_lt, not}
use Rattle.std.specs.Prelude.{All, Err, Ok, OnOk, Result}
use Rattle.std.specs.Result.{is_err}
use Rattle.std.specs.List.{filter, list_any}
use Rattle.std.specs.Ordering.{bool_cmp, is_eq, is_le, nat_cmp, ordering_then}
use Rattle.std.specs.declared.cmp.Ordering.{Ordering}
use Rattle.std.specs.declared.cmp.Ordering.TheVariants.{Less, Equal, Greater}
use Rattle.std.specs.Bool.{beq}
use Rattle.std.specs.Cmp.{nat_cmp_is}
use Rattle.std.specs.BTreeMap.{is_at}
use Rattle.std.specs.BTreeMap.Range.{range_contains}
use Rattle.std.specs.BTreeSet.{contains, BTreeSet}
use Rattle.std.specs.declared.ops.Bound.TheVariants.{Included, Excluded}
use Rattle.std.proofs.lemmas.Bool.{and_parts, cases_Bool, cases_lt, eq-eqb, eqb-false, false_from_ne_true, le-leb, le-ltb, lt-leb, lt-ltb, ltb-true, or_left, or_right, true≢false}
use Rattle.std.proofs.lemmas.List.{take_all}
use Rattle.std.proofs.lemmas.List.Elements.{All-head, All-more, All-nil, All-tail}
use Rattle.std.proofs.lemmas.Cmp.{ranked}
use Rattle.std.proofs.lemmas.Map.Views.{any-filter_same}
use Rattle.aoe_base.specs.Spans.{overlap}
use Rattle.aoe_base.specs.declared.sectors.Span.{Span}
use Rattle.aoe_hold.specs.declared.command.Command.{Command}
use Rattle.aoe_hold.specs.declared.keys.Key.{Key}
use Rattle.aoe_hold.specs.declared.command.Stage.{Stage}
use Rattle.aoe_hold.specs.Commands.{after_stage, is_past, is_write, live}
use Rattle.aoe_hold.specs.Extents.{is_key_of, key_cmp, key_of, lies_between, AreKeysOf, AreLeft, HasKey}
use Rattle.aoe_hold.proofs.ListLemmas.{any-implies, any-push}

pub beq-same : (a b : Bool) → beq a b ≡ true → a ≡ b
beq-same a b is = grind arith

pub beq-left : (a b : Bool) → (a || b) ≡ true → b ≡ false → beq a true ≡ true
beq-left a b is out = grind arith

pub beq-either : (a : Bool) → (beq a true || beq a false) ≡ true
beq-either a = grind arith

then-equal : (o p : Ordering) → is_eq (ordering_then o p) ≡ true → (is_eq o ≡ true) × (is_eq p ≡ true)
then-equal o p is = grind arith

nat-equal : (x y : ℕ) (o : Ordering) → o ≡ nat_cmp x y → is_eq o ≡ true → x ≡ y
nat-equal x y Less is equal = absurd cc
nat-equal x y Equal is equal = ranked x y Equal is
nat-equal x y Greater is equal = absurd cc

bool-equal : (x y : Bool) → is_eq (bool_cmp x y) ≡ true → x ≡ y
bool-equal x y is = grind arith

pub same-key : (a b : Key) → is_at (key_cmp a) b ≡ true → (a.writes ≡ b.writes) × (a.first ≡ b.first) × (a.ticket.0 ≡ b.ticket.0)
same-key a b is =
    let outer = then-equal (bool_cmp a.writes b.writes) (ordering_then (nat_cmp a.first b.first) (nat_cmp a.ticket.0 b.ticket.0)) is in
    let inner = then-equal (nat_cmp a.first b.first) (nat_cmp a.ticket.0 b.ticket.0) outer.1 in
    (bool-equal a.writes b.writes outer.0, nat-equal a.first b.first _ refl inner.0, nat-equal a.ticket.0 b.ticket.0 _ refl inner.1)

pub key-is : (a b : Key) → (a.writes ≡ b.writes) × (a.first ≡ b.first) × (a.ticket.0 ≡ b.ticket.0) → a ≡ b
key-is a b is =
    let whole : (let x : Key = record { writes = a.writes; first = a.first; ticket = record { 0 = a.ticket.0 } } in x)
    ≡ record { writes = b.writes; first = b.first; ticket = record { 0 = b.ticket.0 } } = rw (is.0, is.1, is.2) refl in
    whole

other-key : (a b : Command) → nat_eq a.ticket.0 b.ticket.0 ≡ false → is_at (key_cmp (key_of a)) (key_of b) ≡ false
other-key a b out = false_from_ne_true _ (λ is. eqb-false _ _ out (same-key (key_of a) (key_of b) is).2)

-- a key stays where one is added
pub key-more : (old new : BTreeSet Key) (added key : Key) → contains key_cmp new key ≡ cond (is_at (key_cmp added) key) true (contains key_cmp old key)
    → contains key_cmp old key ≡ true → contains key_cmp new key ≡ true
key-more old new added key is has = is ∙ rw has (either (is_at (key_cmp added) key))
  where
    either : (b : Bool) → cond b true true ≡ true
    either b = grind arith

pub given-ok : {T E : Type 0} (r : Result T E) (A : Type 0) → is_err r ≡ false → OnOk r A → A
given-ok (Ok done) A is given = given
given-ok (Err refused) A is given = absurd cc

-- a command keeps its key where another's was taken out
pub key-stays : (old new : BTreeSet Key) (removed : Key) (gone c : Command)
    → contains key_cmp new (key_of c) ≡ cond (is_at (key_cmp removed) (key_of c)) false (contains key_cmp old (key_of c))
    → removed ≡ key_of gone → nat_eq gone.ticket.0 c.ticket.0 ≡ false → HasKey old c → HasKey new c
key-stays old new removed gone c is key out has = is ∙ rw (key, other-key gone c out) has

nat-le : (x y : ℕ) → x ≤ y → is_le (nat_cmp x y) ≡ true
nat-le x y le = elim (cases_lt x y) [
  | inl below ↦ rw (← nat_cmp_is x y Less below)
  | inr above ↦ rw (← nat_cmp_is x y Equal (omega arith))
]

-- a span that overlaps another begins ahead of its end, and no further in front of it than its own length
overlap-near : (a b : Span) (reach : ℕ) → overlap a b ≡ true → a.count ≤ reach + 1 → (b.at - reach ≤ a.at) × (a.at < b.at + b.count)
overlap-near a b reach is short =
    let parts = and_parts (nat_lt (max a.at b.at - a.at) a.count) (nat_lt (max a.at b.at - b.at) b.count) is in
    let first = ltb-true _ _ parts.0 in
    let second = ltb-true _ _ parts.1 in
    (omega arith, omega arith)

-- which keys lie in a range of one sort
both-ends : (w v : Bool) (o p : Ordering) → (is_le (ordering_then (bool_cmp w v) o) && not (is_le (ordering_then (bool_cmp w v) p)))
    ≡ (beq v w && (is_le o && not (is_le p)))
both-ends w v o p = grind arith

least-ticket : (x y t : ℕ) → is_le (ordering_then (nat_cmp x y) (nat_cmp 0 t)) ≡ nat_le x y
least-ticket x y t = elim (cases_lt x y) [
  | inl below ↦ rw (sym (nat_cmp_is x y Less below), le-leb x y (omega arith))
  | inr from ↦ elim (cases_lt y x) [
    | inl above ↦ rw (sym (nat_cmp_is x y Greater above), lt-leb x y above)
    | inr same ↦ rw (sym (nat_cmp_is x y Equal (omega arith)), le-leb x y (omega arith)) (nat-le 0 t (omega arith))
  ]
]

not-le : (x y : ℕ) → not (nat_le x y) ≡ nat_lt y x
not-le x y = elim (cases_lt y x) [
  | inl below ↦ rw (lt-leb x y below, lt-ltb y x below)
  | inr from ↦ rw (le-leb x y from, le-ltb y x from)
]

pub range-is : (writes : Bool) (first until : ℕ) (low high k : Key) → low ≡ record { writes = writes; first = first; ticket = record { 0 = 0 } }
    → high ≡ record { writes = writes; first = until; ticket = record { 0 = 0 } }
    → range_contains key_cmp (Included low) (Excluded high) k ≡ lies_between writes first until k
range-is writes first until low high k from to =
    rw (from, to) (both-ends writes k.writes (ordering_then (nat_cmp first k.first) (nat_cmp 0 k.ticket.0))
    (ordering_then (nat_cmp until k.first) (nat_cmp 0 k.ticket.0))
    ∙ rw (least-ticket first k.first k.ticket.0, least-ticket until k.first k.ticket.0, not-le until k.first) refl)

-- the key of a command whose span overlaps another is met in the range of that
pub key-met : (keys : BTreeSet Key) (near : List Key) (writes : Bool) (first until : ℕ) (e c : Command) (reach : ℕ)
    → near ≡ filter (lies_between writes first until) keys.keys
    → is_write e.kind ≡ writes → first ≡ c.span.at - reach → until ≡ c.span.at + c.span.count
    → HasKey keys e → e.span.count ≤ reach + 1 → overlap e.span c.span ≡ true → list_any (λ k. nat_eq e.ticket.0 k.ticket.0) near ≡ true
key-met keys near writes first until e c reach is sort low high has short over =
    let near_by = overlap-near e.span c.span reach over short in
    let own : Key → Bool = is_at (key_cmp (key_of e)) in
    let inside : (k : Key) → own k ≡ true → lies_between writes first until k ≡ true = λ k found.
    let same = same-key (key_of e) k found in
    rw (sym same.0 ∙ sort, le-leb first k.first (omega (arith, near_by.0, same.1)), lt-ltb k.first until (omega (arith, near_by.1, same.1))) (grind arith) in
    any-implies own (λ k. nat_eq e.ticket.0 k.ticket.0) (λ k found. eq-eqb _ _ (same-key (key_of e) k found).2) near
    (rw is (any-filter_same own _ true inside keys.keys ∙ has))

-- ---- which keys are left once those of the commands that are past are dropped

pub left-none : (life now : ℕ) (keys : BTreeSet Key) → AreLeft life now [] keys keys
left-none life now keys = record { there = λ key has. has; gone = λ key has. All-nil (λ c. is_past life now c ≡ true → is_key_of key c ≡ false) }

module _ {life now : ℕ} {old keys : BTreeSet Key} (commands : List Command) (i : ℕ) (d : Command) (left : AreLeft life now (take i commands) old keys) where
  pub left-dropped : (new : BTreeSet Key) (removed : Key) → i < length commands → removed ≡ key_of (get_or commands i d)
      → ((key : Key) → contains key_cmp new key ≡ cond (is_at (key_cmp removed) key) false (contains key_cmp keys key))
      → AreLeft life now (take (i + 1) commands) old new
  left-dropped new removed below is updates = record {
    there = λ key has. left.there key (parts key has).1;
    gone = λ key has.
        All-more (λ c. is_past life now c ≡ true → is_key_of key c ≡ false) commands i d below (left.gone key (parts key has).1)
        (λ past. rw is at (parts key has).0);
  }
    where
      only : (a b : Bool) → cond a false b ≡ true → (a ≡ false) × (b ≡ true)
      only a b is = grind arith

      parts : (key : Key) → contains key_cmp new key ≡ true → (is_at (key_cmp removed) key ≡ false) × (contains key_cmp keys key ≡ true)
      parts key has = only (is_at (key_cmp removed) key) (contains key_cmp keys key) (sym (updates key) ∙ has)

  pub left-passed : i < length commands → is_past life now (get_or commands i d) ≡ false → AreLeft life now (take (i + 1) commands) old keys
  left-passed below stays = record {
    there = left.there;
    gone = λ key has.
        All-more (λ c. is_past life now c ≡ true → is_key_of key c ≡ false) commands i d below (left.gone key has)
        (λ past. absurd (true≢false (sym past ∙ stays)));
  }

pub left-all : {life now : ℕ} {old keys : BTreeSet Key} (commands : List Command) (i : ℕ) → length commands ≤ i
    → AreLeft life now (take i commands) old keys → AreLeft life now commands old keys
left-all commands i least left = rw (take_all i commands least) at left

-- nothing is past, and nothing was dropped
pub left-same : (life now : ℕ) (commands : List Command) (keys : BTreeSet Key) → All (λ c. is_past life now c ≡ false) commands
    → AreLeft life now commands keys keys
left-same life now commands keys out = record {
  there = λ key has. has;
  gone = λ key has k d below past. absurd (true≢false (sym past ∙ out k d below));
}

any-kept : (life now : ℕ) (key : Key) (commands : List Command) → All (λ c. is_past life now c ≡ true → is_key_of key c ≡ false) commands
    → list_any (is_key_of key) commands ≡ true → list_any (is_key_of key) (live life now commands) ≡ true
any-kept life now key [] out has = has
any-kept life now key (c ∷ commands) out has =
    let behind = any-kept life now key commands (All-tail (λ c. is_past life now c ≡ true → is_key_of key c ≡ false) c commands out) in
    elim (cases_Bool (is_past life now c)) [
      | inl past ↦
          let other : is_key_of key c ≡ false = All-head (λ c. is_past life now c ≡ true → is_key_of key c ≡ false) c commands out past in
          rw past (behind (rw other at has))
      | inr stays ↦ rw stays (elim (cases_Bool (is_key_of key c)) [
        | inl here ↦ rw here refl
        | inr other ↦ or_right (is_key_of key c) _ (behind (rw other at has))
      ])
    ]

-- each key is that of a held command, once one more is entered
pub keys-entered : {life now : ℕ} {held : List Command} {old made new : BTreeSet Key} (c : Command)
    → ((key : Key) → contains key_cmp made key ≡ true → (contains key_cmp old key ≡ true) ⊎ (is_key_of key c ≡ true))
    → AreLeft life now held made new → AreKeysOf old held → AreKeysOf new (live life now held ++ c ∷ [])
keys-entered {life} {now} {held} c only left keys = record {
  each = λ key has. rw (any-push (is_key_of key) (live life now held) c) (elim (only key (left.there key has)) [
    | inl before ↦ or_left _ (is_key_of key c) (any-kept life now key held (left.gone key has) (keys.each key before))
    | inr own ↦ or_right _ (is_key_of key c) own
  ]);
}

pub keys-stage : {keys : BTreeSet Key} (ticket : ℕ) (change : Stage → Stage) (commands : List Command) → AreKeysOf keys commands
    → AreKeysOf keys (after_stage ticket change commands)
keys-stage ticket change commands all = record { each = λ key has. same key commands ∙ all.each key has }
  where
    same : (key : Key) (xs : List Command) → list_any (is_key_of key) (after_stage ticket change xs) ≡ list_any (is_key_of key) xs
    same key [] = refl
    same key (x ∷ xs) = elim (cases_Bool (nat_eq x.ticket.0 ticket)) [ inl one ↦ rw (one, same key xs) refl | inr other ↦ rw (other, same key xs) refl ]

pub keys-fewer : {old new : BTreeSet Key} {commands : List Command} → AreKeysOf old commands
    → ((key : Key) → contains key_cmp new key ≡ true → contains key_cmp old key ≡ true) → AreKeysOf new commands
keys-fewer all fewer = record { each = λ key has. all.each key (fewer key has) }

-- a key that was added, or was there
pub key-only : (old new : BTreeSet Key) (added key : Key) (c : Command) → contains key_cmp new key
    ≡ cond (is_at (key_cmp added) key) true (contains key_cmp old key)
    → added ≡ key_of c → contains key_cmp new key ≡ true → (contains key_cmp old key ≡ true) ⊎ (is_key_of key c ≡ true)
key-only old new added key c is own has = elim (cases_Bool (is_at (key_cmp added) key)) [
  | inl here ↦ inr (rw own at here)
  | inr other ↦ let there = sym is ∙ has in inl (rw other at there)
]
