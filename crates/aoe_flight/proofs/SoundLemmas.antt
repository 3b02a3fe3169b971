-- What stays true of the commands that are kept, and what the table shows after each change.
use Rattle.std.proofs.Common.{ℕ, ◌≡◌, ◌<◌, ◌≤◌, cond, not, Bool, true, false, List, [], ◌∷◌, length, get_or, suc, map, inl, inr, refl, sym, ap, ◌∙◌, arith, rules, nat_eq}
use Rattle.std.specs.List.{count_by, filter, find, list_any}
use Rattle.std.specs.List.Sorted.{IsPermutation}
use Rattle.std.specs.Prelude.{◌↔◌, IsSome}
use Rattle.std.proofs.lemmas.Bool.{cases_Bool, eqb-true}
use Rattle.aoe_base.proofs.CountLemmas.{all-none, count-alike, count-cons, count-map, count-no, count-yes}
use Rattle.std.proofs.lemmas.List.{length-map}
use Rattle.std.proofs.lemmas.List.Elements.{All-cons, filter_passes}
use Rattle.std.proofs.lemmas.List.Sorted.{All-permutation, length_permutation, list_any-IsPermutation, sum_by-IsPermutation}
use Rattle.aoe_flight.specs.declared.outstanding.Outstanding.{Outstanding}
use Rattle.aoe_flight.specs.FlightTable.{at_time, FlightTable, FitsRoom}
use Rattle.aoe_flight.specs.Outstanding.{change_of, flies_as, has_tag, is_over, is_taken, live, tag_count}
use Rattle.aoe_flight.proofs.LiveLemmas.{live-changed, live-live}
use Rattle.aoe_flight.proofs.RecallLemmas.{any-none}
use Rattle.aoe_flight.proofs.SlotLemmas.{live-shorter}

filter-count : (p q : Outstanding → Bool) (xs : List Outstanding) → count_by q (filter p xs) ≤ count_by q xs
filter-count p q [] = omega arith
filter-count p q (x ∷ xs) =
    let fewer = filter-count p q xs in
    elim (cases_Bool (p x)) [
      | inl stays ↦ rw stays (omega (arith, fewer, count-cons q x (filter p xs), count-cons q x xs))
      | inr goes ↦ rw goes (omega (arith, fewer, count-cons q x xs))
    ]

pub count-live : (rest now : ℕ) (commands : List Outstanding) (tag : ℕ) → tag_count commands tag ≤ 1 → tag_count (live rest now commands) tag ≤ 1
count-live rest now commands tag once = omega (arith, once, filter-count (λ (c : Outstanding). not (is_over rest now c)) (has_tag tag) commands)

-- a change that leaves the tag
abbrev pub KeepsTag : (Outstanding → Outstanding) → Type 0
KeepsTag change = (c : Outstanding) → (change c).flying.tag ≡ c.flying.tag

tag-kept : (ticket : ℕ) (change : Outstanding → Outstanding) (c : Outstanding) → KeepsTag change → (change_of ticket change c).flying.tag ≡ c.flying.tag
tag-kept ticket change c keeps = grind (arith, keeps c)

count-changed : (ticket : ℕ) (change : Outstanding → Outstanding) (commands : List Outstanding) (tag : ℕ) → KeepsTag change
    → tag_count (map (change_of ticket change) commands) tag ≡ tag_count commands tag
count-changed ticket change commands tag keeps =
    count-map (has_tag tag) (change_of ticket change) commands
    ∙ count-alike (λ c. has_tag tag (change_of ticket change c)) (has_tag tag) (λ c. rw (tag-kept ticket change c keeps) refl) commands

pub sound-live : {room capacity new_capacity : ℕ} {commands after : List Outstanding} (rest now : ℕ) → after ≡ live rest now commands → new_capacity ≡ capacity
    → FitsRoom room capacity commands → FitsRoom room new_capacity after
sound-live {commands = commands} rest now is same sound = record {
  fits = rw is (omega (arith, sound.fits, live-shorter rest now commands));
  reserved = rw same sound.reserved;
  few = sound.few;
  distinct = λ tag. rw is (count-live rest now commands tag (sound.distinct tag));
}

pub sound-changed : {room capacity new_capacity : ℕ} {commands after : List Outstanding} (ticket : ℕ) (change : Outstanding → Outstanding) → KeepsTag change
    → after ≡ map (change_of ticket change) commands → new_capacity ≡ capacity → FitsRoom room capacity commands → FitsRoom room new_capacity after
sound-changed {commands = commands} ticket change keeps is same sound = record {
  fits = rw (is, length-map commands (change_of ticket change)) sound.fits;
  reserved = rw same sound.reserved;
  few = sound.few;
  distinct = λ tag. rw (is, count-changed ticket change commands tag keeps) (sound.distinct tag);
}

count-new : (commands : List Outstanding) (c : Outstanding) (tag : ℕ) → is_taken commands c.flying.tag ≡ false → tag_count commands tag ≤ 1
    → tag_count (c ∷ commands) tag ≤ 1
count-new commands c tag free once = elim (cases_Bool (nat_eq c.flying.tag tag)) [
  | inl is ↦
      let none = all-none (has_tag c.flying.tag) commands (any-none (has_tag c.flying.tag) commands free) in
      let own = rw (eqb-true _ _ is) at none in
      omega (arith, own, count-yes (has_tag tag) c commands is)
  | inr is ↦ omega (arith, once, count-no (has_tag tag) c commands is)
]

pub sound-new : {room capacity new_capacity : ℕ} {commands : List Outstanding} (c : Outstanding) (after : List Outstanding) → IsPermutation (c ∷ commands) after
    → is_taken commands c.flying.tag ≡ false → new_capacity ≡ capacity → length commands < room → FitsRoom room capacity commands
    → FitsRoom room new_capacity after
sound-new {commands = commands} c after is free same more sound = record {
  fits = omega (arith, length_permutation (c ∷ commands) after is);
  reserved = rw same sound.reserved;
  few = sound.few;
  distinct = λ tag. rw (sum_by-IsPermutation (λ d. cond (has_tag tag d) 1 0) (c ∷ commands) after is) (count-new commands c tag free (sound.distinct tag));
}

all-kept : (p : Outstanding → Bool) (xs : List Outstanding) → ((k : ℕ) (d : Outstanding) → k < length xs → p (get_or xs k d) ≡ true) → filter p xs ≡ xs
all-kept p [] all = refl
all-kept p (x ∷ xs) all =
    let here : p x ≡ true = all 0 x (omega arith) in
    rw here (ap (λ (l : List Outstanding). x ∷ l) (all-kept p xs (λ k d below. all (suc k) d (omega arith))))

-- the commands that are kept are those that fly or rest, and the new one
pub live-new : (rest now : ℕ) (c : Outstanding) (commands after : List Outstanding) → c.finished ≡ false
    → IsPermutation (c ∷ live rest now commands) after → live rest now after ≡ after
live-new rest now c commands after flying is =
    let stays : Outstanding → Bool = λ d. not (is_over rest now d) in
    all-kept stays after (All-permutation (λ d. stays d ≡ true) (c ∷ live rest now commands) after is
    (All-cons (λ d. stays d ≡ true) c (live rest now commands) (rw flying) (filter_passes stays commands)))

find-some : (p : Outstanding → Bool) (xs : List Outstanding) → list_any p xs ≡ true → IsSome (find p xs)
find-some p [] any = absurd cc
find-some p (x ∷ xs) any = elim (cases_Bool (p x)) [
  | inl some ↦ rw some (search rules)
  | inr out ↦ rw out (find-some p xs (rw out at any))
]

-- the new command flies
pub flies-new : (ticket : ℕ) (c : Outstanding) (commands after : List Outstanding) → IsPermutation (c ∷ commands) after
    → flies_as ticket c ≡ true → IsSome (find (flies_as ticket) after)
flies-new ticket c commands after is flies =
    find-some (flies_as ticket) after (sym (list_any-IsPermutation (flies_as ticket) (c ∷ commands) after is) ∙ rw flies refl)

abbrev pub table_of : ℕ → ℕ → ℕ → ℕ → ℕ → List Outstanding → FlightTable
table_of room rest dead latest last_tag commands =
    record { room = room; rest = rest; dead = dead; latest = latest; last_tag = last_tag; commands = live rest latest commands }

-- the table shows its fields
module _ {room rest dead latest last_tag : ℕ} (commands : List Outstanding) {table : FlightTable}
    (is : table_of room rest dead latest last_tag commands ≡ table) where
  pub time-of : (now : ℕ) → table.latest ≤ now → latest ≤ now
  time-of now later = rw (← is) at later

  pub forget-value : (now : ℕ) (after : List Outstanding) → table.latest ≤ now → after ≡ live rest now commands
      → table_of room rest dead now last_tag after ≡ at_time table now
  forget-value now after later after_is =
      rw (← is, after_is, live-live rest latest now commands (time-of now later), live-live rest now now commands (omega arith)) refl

  pub change-value : (now ticket : ℕ) (change : Outstanding → Outstanding) (after : List Outstanding) → table.latest ≤ now
      → after ≡ map (change_of ticket change) commands
      → table_of room rest dead now last_tag after
      ≡ record table { latest = now; commands = live table.rest now (map (change_of ticket change) table.commands) }
  change-value now ticket change after later after_is = rw (← is, after_is, live-changed rest latest now ticket change commands (time-of now later)) refl

  pub finish-value : (ticket : ℕ) (change : Outstanding → Outstanding) (after : List Outstanding) → after ≡ map (change_of ticket change) commands
      → table_of room rest dead latest last_tag after ≡ record table { commands = live table.rest table.latest (map (change_of ticket change) table.commands) }
  finish-value ticket change after after_is = rw (← is, after_is, live-changed rest latest latest ticket change commands (omega arith)) refl

  -- the commands that fly or rest at a later time
  pub live-view : (now : ℕ) → table.latest ≤ now → live table.rest now table.commands ≡ live rest now commands
  live-view now later = rw (← is) (live-live rest latest now commands (time-of now later))

-- a table that is full has none that rested out
pub full-none : (over : Bool) (lived alive : List Outstanding) (commands : List Outstanding) (room held : ℕ) → (over ≡ true → length alive < length commands)
    → (over ≡ false → alive ≡ commands) → length lived ≡ length alive → held ≡ room → length commands ≤ held → held ≤ length commands
    → (not over ≡ true) ↔ (room ≤ length lived)
full-none true lived alive commands room held some none same room_is fits full = (λ no_way. absurd cc, λ filled. absurd (omega (arith, some refl)))
full-none false lived alive commands room held some none same room_is fits full =
    (λ yes_way. omega (arith, ap (λ (l : List Outstanding). length l) (none refl)), λ filled. refl)
