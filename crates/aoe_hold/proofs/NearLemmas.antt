-- How many keys lie near a span, by the commands whose they are.
use Rattle.std.proofs.Common.{ℕ, zero, suc, cond, ◌≡◌, ◌+◌, ◌*◌, ◌-◌, ◌^◌, ◌<◌, ◌≤◌, ◌&&◌, ◌||◌, not, Bool, true, false, List, [], ◌∷◌, ◌++◌, get_or, length, inl, inr, refl, sym, ◌∙◌, arith}
use Rattle.std.specs.Prelude.{All}
use Rattle.std.specs.Bool.{beq}
use Rattle.std.specs.BTreeMap.{is_at}
use Rattle.std.specs.BTreeSet.{BTreeSet, IsOrdered}
use Rattle.std.specs.List.{count_by, filter, list_any}
use Rattle.std.specs.List.Sorted.{IsStrictlySortedBy}
use Rattle.std.specs.Cmp.{nat_cmp_is}
use Rattle.std.specs.Ordering.{bool_cmp}
use Rattle.std.specs.declared.cmp.Ordering.TheVariants.{Equal, Less}
use Rattle.std.proofs.lemmas.Bool.{and_parts, cases_Bool, cases_lt, false_from_ne_true, true≢false}
use Rattle.std.proofs.lemmas.List.Folds.{list_any_at}
use Rattle.std.proofs.lemmas.List.Sums.{count_by-le-length, length-filter, sum_by_push}
use Rattle.std.proofs.lemmas.Map.Keys.{sorted_tail, Less-from_sorted}
use Rattle.aoe_base.proofs.CountLemmas.{all-none, count-cons, count-filter, count-no, count-split, count-yes}
use Rattle.aoe_hold.specs.declared.command.Command.{Command}
use Rattle.aoe_hold.specs.declared.keys.Key.{Key}
use Rattle.aoe_hold.specs.Commands.{is_past, is_write, live}
use Rattle.aoe_hold.specs.Extents.{goes_by_span, is_key_of, kept_extent, key_cmp, key_of, lies_between, no_extent, AreKeysOf, Extent}
use Rattle.aoe_hold.specs.HoldTable.{HoldTable, OnePastFrom}
use Rattle.aoe_hold.specs.Looks.{begins_near, is_near, looks_back, looks_to_drop}
use Rattle.aoe_hold.proofs.KeyLemmas.{key-is, same-key}

behind : (a k y : Key) → a ≡ k → key_cmp k y ≡ Less → is_at (key_cmp a) y ≡ false
behind a k y same less = rw (same, less) refl

-- no key stands twice
own-once : (c : Command) (ks : List Key) → IsStrictlySortedBy key_cmp ks → count_by (λ k. is_key_of k c) ks ≤ 1
own-once c [] up = omega arith
own-once c (k ∷ ks) up = elim (cases_Bool (is_key_of k c)) [
  | inl own ↦
      let is = same-key (key_of c) k own in
      let same : key_of c ≡ k = key-is (key_of c) k is in
      let none = all-none (λ x. is_key_of x c) ks (λ j d below.
      behind (key_of c) k _ same (Less-from_sorted key_cmp (k ∷ ks) 0 (suc j) d up (omega arith) (omega arith))) in
      omega (arith, count-yes (λ x. is_key_of x c) k ks own, none)
  | inr other ↦ omega (arith, count-no (λ x. is_key_of x c) k ks other, own-once c ks (sorted_tail key_cmp k ks up))
]

count-under : {X : Type 0} (p q : X → Bool) → ((x : X) → p x ≡ true → q x ≡ true) → (xs : List X) → count_by p xs ≤ count_by q xs
count-under p q each [] = omega arith
count-under p q each (x ∷ xs) =
    let one : cond (p x) 1 0 ≤ cond (q x) 1 0 = bits (p x) (q x) (each x) in
    omega (arith, count-cons p x xs, count-cons q x xs, one, count-under p q each xs)
  where
    bits : (a b : Bool) → (a ≡ true → b ≡ true) → cond a 1 zero ≤ cond b 1 0
    bits true b so = rw (so refl) (omega arith)
    bits false b so = omega arith

-- as many keys pass a test as commands whose key passes it, where each of those keys is that of a command
keys-few : (near : Key → Bool) (ks : List Key) (commands : List Command) → IsStrictlySortedBy key_cmp ks
    → All (λ k. near k ≡ true → list_any (is_key_of k) commands ≡ true) ks → count_by near ks ≤ count_by (λ c. near (key_of c)) commands
keys-few near ks [] up owned =
    omega (arith, all-none near ks (λ j d below. false_from_ne_true _ (λ is. true≢false (sym (owned j d below is)))))
keys-few near ks (c ∷ commands) up owned =
    let split = count-split near (λ k. near k && is_key_of k c) (λ k. near k && not (is_key_of k c)) (λ k. parted (near k) (is_key_of k c)) ks in
    let rest = keys-few (λ k. near k && not (is_key_of k c)) ks commands up
    (λ j d below is. others (is_key_of (get_or ks j d) c) _ (and_parts _ _ is).1 (owned j d below (and_parts _ _ is).0)) in
    let fewer = count-under (λ e. near (key_of e) && not (is_key_of (key_of e) c)) (λ e. near (key_of e)) (λ e is. (and_parts _ _ is).0) commands in
    omega (arith, split, rest, fewer, mine, count-cons (λ e. near (key_of e)) c commands)
  where
    parted : (a b : Bool) → cond a 1 zero ≡ cond (a && b) 1 0 + cond (a && not b) 1 0
    parted a b = grind arith

    others : (a b : Bool) → not a ≡ true → (a || b) ≡ true → b ≡ true
    others a b out is = grind arith

    out-of : near (key_of c) ≡ false → (k : Key) → (near k && is_key_of k c) ≡ false
    out-of out k = false_from_ne_true _ (λ is.
        let parts = and_parts (near k) (is_key_of k c) is in
        let same : key_of c ≡ k = key-is (key_of c) k (same-key (key_of c) k parts.1) in
        true≢false (sym (rw (← same) at parts.0) ∙ out))

    mine : count_by (λ k. near k && is_key_of k c) ks ≤ cond (near (key_of c)) 1 0
    mine = elim (cases_Bool (near (key_of c))) [
      | inl is ↦
          rw is (omega (arith, own-once c ks up, count-under (λ k. near k && is_key_of k c) (λ k. is_key_of k c) (λ k both. (and_parts _ _ both).1) ks))
      | inr out ↦ rw out (omega (arith, all-none (λ k. near k && is_key_of k c) ks (λ j d below. out-of out (get_or ks j d))))
    ]

bool-same : (x : Bool) → bool_cmp x x ≡ Equal
bool-same x = grind arith

own-at : (k : Key) → is_at (key_cmp k) k ≡ true
own-at k = rw (bool-same k.writes, sym (nat_cmp_is k.first k.first Equal refl), sym (nat_cmp_is k.ticket.0 k.ticket.0 Equal refl)) refl

-- the keys of one sort that lie near a span
pub keys-between : {keys : BTreeSet Key} {held : List Command} (near : List Key) (extent : Extent) (writes : Bool) (first until : ℕ) (c : Command)
    → near ≡ filter (lies_between writes first until) keys.keys → IsOrdered key_cmp keys → AreKeysOf keys held
    → first ≡ c.span.at - extent.reach → until ≡ c.span.at + c.span.count
    → length near ≤ count_by (λ e. beq (is_write e.kind) writes && begins_near extent c e) held
keys-between {keys} {held} near extent writes first until c is up owned low high =
    let few = keys-few (lies_between writes first until) keys.keys held up
    (λ j d below lies. owned.each (get_or keys.keys j d) (list_any_at (is_at (key_cmp (get_or keys.keys j d))) keys.keys j d below
    (own-at (get_or keys.keys j d)))) in
    let same = length-filter (lies_between writes first until) keys.keys in
    let all : length near ≤ count_by (λ e. lies_between writes first until (key_of e)) held = rw is (omega (arith, few, same)) in
    rw (low, high) at all

-- both sorts, as far as one of the two writes
pub sorts-both : (extent : Extent) (c : Command) (held : List Command) → is_write c.kind ≡ true
    → count_by (is_near extent c) held ≡ count_by (λ e. beq (is_write e.kind) true && begins_near extent c e) held
    + count_by (λ e. beq (is_write e.kind) false && begins_near extent c e) held
sorts-both extent c held writes = count-split (is_near extent c) _ _ (λ e. rw writes (parts (is_write e.kind) (begins_near extent c e))) held
  where
    parts : (a b : Bool) → cond b 1 zero ≡ cond (beq a true && b) 1 0 + cond (beq a false && b) 1 0
    parts a b = grind arith

pub sort-under : (extent : Extent) (c : Command) (held : List Command)
    → count_by (λ e. beq (is_write e.kind) true && begins_near extent c e) held ≤ count_by (is_near extent c) held
sort-under extent c held = count-under _ (is_near extent c) (λ e is. under (is_write e.kind) (is_write c.kind) (begins_near extent c e) is) held
  where
    under : (a b n : Bool) → (beq a true && n) ≡ true → ((b || a) && n) ≡ true
    under a b n is = grind arith

-- ---- a command is entered

one-bit : (b : Bool) → cond b 1 zero ≤ 1
one-bit true = omega arith
one-bit false = omega arith

module _ (table : HoldTable) (new : Command) (before after : ℕ) where
  looks-left : (left : List Command) → length left ≤ length table.commands
      → count_by (is_near table.extent new) left ≤ count_by (is_near table.extent new) table.commands
      → (goes_by_span (kept_extent table.extent left) new.kind ≡ true
      → after ≤ before + 2 + 2 * count_by (is_near (kept_extent table.extent left) new) (left ++ new ∷ []))
      → (goes_by_span (kept_extent table.extent left) new.kind ≡ false → after ≡ before + length left)
      → after ≤ before + 4 + looks_back table new
  looks-left [] fewer few by_span by_walk = elim (cases_Bool (goes_by_span no_extent new.kind)) [
    | inl goes ↦
        let own = count-cons (is_near no_extent new) new [] in
        let once : cond (is_near no_extent new new) 1 zero ≤ 1 = one-bit (is_near no_extent new new) in
        omega (arith, by_span goes, own, once)
    | inr walks ↦ omega (arith, by_walk walks)
  ]
  looks-left (c ∷ left) fewer few by_span by_walk = elim (cases_Bool (goes_by_span table.extent new.kind)) [
    | inl goes ↦
        let own = sum_by_push (λ e. cond (is_near table.extent new e) 1 0) (c ∷ left) new in
        let once : cond (is_near table.extent new new) 1 zero ≤ 1 = one-bit (is_near table.extent new new) in
        rw goes (omega (arith, by_span goes, own, once, few))
    | inr walks ↦ rw walks (omega (arith, by_walk walks, fewer))
  ]

  pub looks-few : (goes_by_span (kept_extent table.extent (live table.life table.latest table.commands)) new.kind ≡ true
      → after ≤ before + 2 + 2 * count_by (is_near (kept_extent table.extent (live table.life table.latest table.commands)) new)
      (live table.life table.latest table.commands ++ new ∷ []))
      → (goes_by_span (kept_extent table.extent (live table.life table.latest table.commands)) new.kind ≡ false
      → after ≡ before + length (live table.life table.latest table.commands))
      → after ≤ before + 4 + looks_back table new
  looks-few by_span by_walk =
      let stays : Command → Bool = λ c. not (is_past table.life table.latest c) in
      let fewer = count_by-le-length stays table.commands in
      let few = count-filter (is_near table.extent new) stays table.commands in
      let under = count-under (λ c. stays c && is_near table.extent new c) (is_near table.extent new) (λ c is. (and_parts _ _ is).1) table.commands in
      looks-left (live table.life table.latest table.commands) (omega (arith, fewer, length-filter stays table.commands))
      (omega (arith, few, under)) by_span by_walk

pub drops-few : (table : HoldTable) (from before after : ℕ) → OnePastFrom table.life from table.commands → table.latest < 2 ^ 64
    → (table.latest < from → after ≡ before) → after ≤ before + length table.commands → after ≤ before + looks_to_drop table
drops-few table from before after one short quiet most = elim (cases_lt table.latest from) [
  | inl early ↦ omega (arith, quiet early)
  | inr reached ↦ rw (one table.latest short reached) most
]

pub entered-few : (view table : HoldTable) (new : Command) (from start dropped looked : ℕ) → view ≡ table → OnePastFrom view.life from view.commands
    → view.latest < 2 ^ 64 → (view.latest < from → dropped ≡ start) → dropped ≤ start + length view.commands
    → (goes_by_span (kept_extent view.extent (live view.life view.latest view.commands)) new.kind ≡ true
    → looked ≤ dropped + 2 + 2 * count_by (is_near (kept_extent view.extent (live view.life view.latest view.commands)) new)
    (live view.life view.latest view.commands ++ new ∷ []))
    → (goes_by_span (kept_extent view.extent (live view.life view.latest view.commands)) new.kind ≡ false
    → looked ≡ dropped + length (live view.life view.latest view.commands))
    → looked ≤ start + 4 + looks_to_drop table + looks_back table new
entered-few view table new from start dropped looked is one short quiet most by_span by_walk =
    let drops = drops-few view from start dropped one short quiet most in
    let looks = looks-few view new dropped looked by_span by_walk in
    rw (← is) (omega (arith, drops, looks))
