-- An order of the commands, after a change of a slot.
use Rattle.std.proofs.Common.{ℕ, zero, suc, ◌≡◌, ◌≢◌, ◌+◌, ◌<◌, ◌≤◌, ◌&&◌, Bool, cond, true, false, List, [], ◌∷◌, length, get_or, Option, Some, None, inl, inr, refl, sym, ap, ◌∙◌, arith}
use Rattle.std.specs.Prelude.{Contains}
use Rattle.std.specs.List.{count_by}
use Rattle.std.specs.List.Sorted.{IsPermutation}
use Rattle.std.proofs.lemmas.Bool.{and_parts, cases_Bool, cases_lt, true≢false}
use Rattle.std.proofs.lemmas.List.Elements.{All-contains}
use Rattle.std.proofs.lemmas.List.Sorted.{sum_by_popped, sum_by_pushed}
use Rattle.std.proofs.lemmas.List.Sums.{count_by-le-length}
use Rattle.slab.specs.Slab.{entries_from, get, slab_len, entries as slab_entries, Slab, Updates}
use Rattle.slab.proofs.SlabLemmas.{length-entries, Contains-cons, Contains-entries}
use Rattle.aoe_base.proofs.CountLemmas.{count-all, count-cons, count-no, none-all}
use Rattle.aoe_flight.specs.declared.order.Entry.{Entry}
use Rattle.aoe_flight.specs.declared.outstanding.Outstanding.{Outstanding}
use Rattle.aoe_flight.specs.Table.{IsOrderOf}
use Rattle.aoe_flight.proofs.EntryLemmas.{same_entry, same-is, same-self}

abbrev bit : Bool → ℕ
bit b = cond b 1 0

abbrev shows : (Outstanding → Bool) → (ℕ → Outstanding → Entry) → (Entry → Bool) → ℕ × Outstanding → Bool
shows test entry p held = test held.1 && p (entry held.0 held.1)

-- ---- what passes a test is there

there-counted : {X : Type 0} (p : X → Bool) (xs : List X) (x : X) → Contains xs x → p x ≡ true → 0 < count_by p xs
there-counted p xs x there is = elim (cases_lt 0 (count_by p xs)) [
  | inl some ↦ some
  | inr none ↦ absurd (true≢false (sym is ∙ All-contains (λ y. p y ≡ false) xs x (none-all p xs (omega (arith, none))) there))
]

counted-there : {X : Type 0} (p : X → Bool) (xs : List X) → 0 < count_by p xs → (x : X) × Contains xs x × (p x ≡ true)
counted-there p [] some = absurd (omega arith)
counted-there p (x ∷ xs) some = elim (cases_Bool (p x)) [
  | inl is ↦ (x, (0, omega arith, refl), is)
  | inr out ↦
      let later = counted-there p xs (omega (arith, count-no p x xs out, some)) in
      (later.0, Contains-cons x later.0 xs later.1, later.2)
]

-- the command of an entry
pub record IsHeld (slab : Slab Outstanding) (test : Outstanding → Bool) (entry : ℕ → Outstanding → Entry) (e : Entry) : Type 0 where
  pub command : Outstanding
  pub there : get slab e.slot ≡ Some command
  pub passes : test command ≡ true
  pub is : e ≡ entry e.slot command

pub same-command : (slab : Slab Outstanding) (k : ℕ) (c d : Outstanding) → get slab k ≡ Some c → get slab k ≡ Some d → c ≡ d
same-command slab k c d one two = cc

module _ {slab : Slab Outstanding} {test : Outstanding → Bool} {entry : ℕ → Outstanding → Entry} {entries : List Entry}
    (o : IsOrderOf slab test entry entries) where
  pub command-of : (e : Entry) → Contains entries e → IsHeld slab test entry e
  command-of e there =
      let own = there-counted (same_entry e) entries e there (same-self e) in
      let held = counted-there (shows test entry (same_entry e)) (slab_entries slab) (omega (arith, own, o.same (same_entry e))) in
      let parts = and_parts (test held.0.1) _ held.2 in
      let is = same-is e (entry held.0.0 held.0.1) parts.1 in
      let slot : e.slot ≡ held.0.0 = ap (λ (f : Entry). f.slot) is ∙ o.slots held.0.0 held.0.1 in
      record {
        command = held.0.1;
        there = ap (get slab) slot ∙ (Contains-entries slab held.0.0 held.0.1).0 held.1;
        passes = parts.0;
        is = is ∙ ap (λ k. entry k held.0.1) (sym slot);
      }

  pub entry-of : (k : ℕ) (c : Outstanding) → get slab k ≡ Some c → test c ≡ true → Contains entries (entry k c)
  entry-of k c at passes =
      let e = entry k c in
      let own = there-counted (shows test entry (same_entry e)) (slab_entries slab) (k, c)
      ((Contains-entries slab k c).1 at) (rw (passes, same-self e) refl) in
      let found = counted-there (same_entry e) entries (omega (arith, own, o.same (same_entry e))) in
      rw (same-is e found.0 found.2) found.1

  pub no-longer : length entries ≤ slab_len slab
  no-longer =
      let tested = λ (h : ℕ × Outstanding). test h.1 && true in
      omega (arith, o.same (λ e. true), count-all entries, count_by-le-length tested (slab_entries slab), length-entries slab)

-- ---- a change of a slot

abbrev on : (ℕ × Outstanding → Bool) → ℕ → Option Outstanding → Bool
on q k None = false
on q k (Some c) = q (k, c)

abbrev rest : List (Option Outstanding) → List (Option Outstanding)
rest [] = []
rest (o ∷ slots) = slots

rest-get : (slots : List (Option Outstanding)) (k : ℕ) → get_or (rest slots) k None ≡ get_or slots (suc k) None
rest-get [] k = refl
rest-get (o ∷ slots) k = refl

module _ (q : ℕ × Outstanding → Bool) where
  first-slot : (at : ℕ) (slots : List (Option Outstanding))
      → count_by q (entries_from at slots) ≡ bit (on q at (get_or slots 0 None)) + count_by q (entries_from (at + 1) (rest slots))
  first-slot at [] = refl
  first-slot at (None ∷ slots) = omega arith
  first-slot at (Some c ∷ slots) = count-cons q (at, c) (entries_from (at + 1) slots)

  same-slots : (at : ℕ) (old new : List (Option Outstanding)) → ((k : ℕ) → get_or new k None ≡ get_or old k None)
      → count_by q (entries_from at new) ≡ count_by q (entries_from at old)
  same-slots at [] [] same = refl
  same-slots at [] (n ∷ new) same = let first : n ≡ None = same 0 in rw first (same-slots (at + 1) [] new (λ k. same (suc k)))
  same-slots at (o ∷ old) [] same = let first : o ≡ None = sym (same 0) in rw first (same-slots (at + 1) old [] (λ k. same (suc k)))
  same-slots at (o ∷ old) (n ∷ new) same =
      let first : n ≡ o = same 0 in
      omega (
        arith,
        first-slot at (o ∷ old),
        first-slot at (n ∷ new),
        ap (λ s. bit (on q at s)) first,
        same-slots (at + 1) old new (λ k. same (suc k)),
      )

  one-slot : (at k j : ℕ) (old new : List (Option Outstanding)) → j ≡ at + k → ((i : ℕ) → i ≢ k → get_or new i None ≡ get_or old i None)
      → bit (on q j (get_or old k None)) + count_by q (entries_from at new) ≡ bit (on q j (get_or new k None)) + count_by q (entries_from at old)
  one-slot at zero j old new is others =
      let here : j ≡ at = omega (arith, is) in
      let later = same-slots (at + 1) (rest old) (rest new) (λ k.
      rest-get new k ∙ others (suc k) (λ same. absurd (omega (arith, same))) ∙ sym (rest-get old k)) in
      rw here (omega (arith, first-slot at old, first-slot at new, later))
  one-slot at (suc k) j old new is others =
      let later = one-slot (at + 1) k j (rest old) (rest new) (omega (arith, is)) (λ i other.
      rest-get new i ∙ others (suc i) (λ same. other (omega (arith, same))) ∙ sym (rest-get old i)) in
      let head = ap (λ s. bit (on q at s)) (others 0 (λ same. absurd (omega (arith, same)))) in
      omega (
        arith,
        first-slot at old,
        first-slot at new,
        head,
        later,
        ap (λ s. bit (on q j s)) (rest-get old k),
        ap (λ s. bit (on q j s)) (rest-get new k),
      )

-- nothing passes
off : (test : Outstanding → Bool) (entry : ℕ → Outstanding → Entry) (k : ℕ) (o : Option Outstanding) (p : Entry → Bool)
    → ((c : Outstanding) → o ≡ Some c → test c ≡ false) → bit (on (shows test entry p) k o) ≡ 0
off test entry k None p fails = refl
off test entry k (Some c) p fails = rw (fails c refl) refl

-- what an order has of the commands, after the change of one slot
module _ {slab next : Slab Outstanding} {k : ℕ} {slot : Option Outstanding} {test : Outstanding → Bool} {entry : ℕ → Outstanding → Entry}
    (updates : Updates slab next k slot) where
  -- as many entries left the order as the old command has, and as many came as the new one has
  changed : {old new : List Entry}
      → ((p : Entry → Bool) → bit (on (shows test entry p) k (get slab k)) + count_by p new ≡ bit (on (shows test entry p) k slot) + count_by p old)
      → IsOrderOf slab test entry old → IsOrderOf next test entry new
  changed counts o = record {
    slots = o.slots;
    same = λ p.
        let moved = one-slot (shows test entry p) 0 k k slab.slots next.slots (omega arith) updates.others in
        omega (arith, counts p, moved, o.same p, ap (λ s. bit (on (shows test entry p) k s)) updates.changed);
  }

  -- the entry of the old command was taken out, and the new one doesn't pass
  pub taken : {old new : List Entry} (c : Outstanding) → get slab k ≡ Some c → test c ≡ true → ((d : Outstanding) → slot ≡ Some d → test d ≡ false)
      → IsPermutation old (entry k c ∷ new) → IsOrderOf slab test entry old → IsOrderOf next test entry new
  taken {old} {new} c at passes out gone = changed (λ p.
      let none = off test entry k slot p out in
      let one : bit (on (shows test entry p) k (get slab k)) ≡ bit (p (entry k c)) = rw (at, passes) refl in
      omega (arith, none, one, sum_by_popped (λ e. bit (p e)) (entry k c) old new gone))

  -- neither the old command passes nor the new one
  pub passed : {entries : List Entry} → ((c : Outstanding) → get slab k ≡ Some c → test c ≡ false) → ((d : Outstanding) → slot ≡ Some d → test d ≡ false)
      → IsOrderOf slab test entry entries → IsOrderOf next test entry entries
  passed fails out = changed (λ p. omega (arith, off test entry k (get slab k) p fails, off test entry k slot p out))

  -- the entry of the new command was added
  pub added : {old new : List Entry} (d : Outstanding) → slot ≡ Some d → test d ≡ true → ((c : Outstanding) → get slab k ≡ Some c → test c ≡ false)
      → IsPermutation (entry k d ∷ old) new → IsOrderOf slab test entry old → IsOrderOf next test entry new
  added {old} {new} d is passes fails come = changed (λ p.
      let none = off test entry k (get slab k) p fails in
      let one : bit (on (shows test entry p) k slot) ≡ bit (p (entry k d)) = rw (is, passes) refl in
      omega (arith, none, one, sum_by_pushed (λ e. bit (p e)) (entry k d) old new come))

  -- the entry of the new command was put in the place of that of the old one
  pub replaced : {old now new : List Entry} (c d : Outstanding) → get slab k ≡ Some c → slot ≡ Some d → test c ≡ true → test d ≡ true
      → IsPermutation old (entry k c ∷ now) → IsPermutation (entry k d ∷ now) new → IsOrderOf slab test entry old → IsOrderOf next test entry new
  replaced {old} {now} {new} c d at is c_passes d_passes gone come = changed (λ p.
      let one : bit (on (shows test entry p) k (get slab k)) ≡ bit (p (entry k c)) = rw (at, c_passes) refl in
      let other : bit (on (shows test entry p) k slot) ≡ bit (p (entry k d)) = rw (is, d_passes) refl in
      omega (
        arith,
        one,
        other,
        sum_by_popped (λ e. bit (p e)) (entry k c) old now gone,
        sum_by_pushed (λ e. bit (p e)) (entry k d) now new come,
      ))

  -- a change that the order doesn't see
  pub unseen : {entries : List Entry} (c d : Outstanding) → get slab k ≡ Some c → slot ≡ Some d → test d ≡ test c → entry k d ≡ entry k c
      → IsOrderOf slab test entry entries → IsOrderOf next test entry entries
  unseen c d at is tests entries_are = changed (λ p.
      let same : bit (on (shows test entry p) k (get slab k)) ≡ bit (on (shows test entry p) k slot) = rw (at, is, tests, entries_are) refl in
      omega (arith, same))
