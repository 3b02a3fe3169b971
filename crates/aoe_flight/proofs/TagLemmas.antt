-- The next tag, and tags that stand once.
use Rattle.std.proofs.Common.{ℕ, ◌≡◌, ◌+◌, ◌-◌, ◌<◌, ◌≤◌, cond, Bool, true, false, List, [], ◌∷◌, length, inl, inr, ap, ◌∙◌, arith, nat_lt, if◌then◌else◌}
use Rattle.std.specs.List.{count_by, list_any}
use Rattle.std.proofs.lemmas.Bool.{cases_Bool, cases_lt, eqb-true, lt-ltb, le-ltb, ltb-true}
use Rattle.std.proofs.lemmas.Bool.Decides.{nat_tests}
use Rattle.aoe_base.proofs.CommonLemmas.{one-at-most}
use Rattle.aoe_base.proofs.CountLemmas.{count-cons, count-no, count-yes}
use Rattle.std.proofs.lemmas.List.Sums.{count_by-le-length, sum_by-le-sum_by}
use Rattle.aoe_flight.specs.declared.outstanding.Outstanding.{Outstanding}
use Rattle.aoe_flight.specs.Outstanding.{has_tag, is_taken, tag_after}

-- how many steps after the next of `last` a tag comes
distance : ℕ → ℕ → ℕ
distance last tag = if nat_lt last tag then tag - last - 1 else tag + 4294967295 - last - 1

distance-after : (last steps : ℕ) → last ≤ 4294967295 → steps < 4294967295 → distance last (tag_after last steps) ≡ steps
unfolding distance
distance-after last steps most few = grind (arith, nat_tests)

-- the command has one of the first tags after `last`
pub passed : ℕ → ℕ → Outstanding → Bool
passed last steps c = nat_lt (distance last c.flying.tag) steps

-- where one element passes the wider test alone, more pass it
count-more : (p q r : Outstanding → Bool) → ((c : Outstanding) → p c ≡ true → q c ≡ true)
    → ((c : Outstanding) → r c ≡ true → (p c ≡ false) × (q c ≡ true)) → (commands : List Outstanding)
    → list_any r commands ≡ true → count_by p commands + 1 ≤ count_by q commands
count-more p q r wider one [] some = absurd cc
count-more p q r wider one (c ∷ commands) some =
    let first = count-cons p c commands in
    let second = count-cons q c commands in
    elim (cases_Bool (r c)) [
      | inl is ↦
          let fewer = sum_by-le-sum_by (λ d. cond (p d) 1 0) (λ d. cond (q d) 1 0) commands (λ d. one-at-most (p d) (q d) (wider d)) in
          omega (arith, fewer, count-no p c commands (one c is).0, count-yes q c commands (one c is).1)
      | inr other ↦ omega (arith, count-more p q r wider one commands (rw other at some), first, second, one-at-most (p c) (q c) (wider c))
    ]

-- each tag that was passed is the tag of another command
pub passed-more : (last steps : ℕ) (commands : List Outstanding) → last ≤ 4294967295 → steps < 4294967295 → is_taken commands (tag_after last steps) ≡ true
    → count_by (passed last steps) commands + 1 ≤ count_by (passed last (steps + 1)) commands
unfolding passed
passed-more last steps commands most few taken =
    count-more (passed last steps) (passed last (steps + 1)) (has_tag (tag_after last steps))
    (λ c before. lt-ltb (distance last c.flying.tag) (steps + 1) (omega (arith, ltb-true (distance last c.flying.tag) steps before)))
    (λ c has.
    let tag : c.flying.tag ≡ tag_after last steps = eqb-true c.flying.tag (tag_after last steps) has in
    let place : distance last c.flying.tag ≡ steps = ap (distance last) tag ∙ distance-after last steps most few in
    (le-ltb (distance last c.flying.tag) steps (omega (arith, place)), lt-ltb (distance last c.flying.tag) (steps + 1) (omega (arith, place))))
    commands taken

-- the tags passed so far
pub record Passes (commands : List Outstanding) (last steps tag : ℕ) : Type 0 where
  pub place : tag ≡ tag_after last steps
  pub taken : (k : ℕ) → k < steps → is_taken commands (tag_after last k) ≡ true
  pub counted : steps ≤ count_by (passed last steps) commands

pub passes-few : (commands : List Outstanding) (last steps tag : ℕ) → Passes commands last steps tag → steps ≤ length commands
passes-few commands last steps tag p = omega (arith, p.counted, count_by-le-length (passed last steps) commands)

pub passes-more : (commands : List Outstanding) (last steps tag next : ℕ) → Passes commands last steps tag → last ≤ 4294967295
    → length commands < 4294967295 → is_taken commands tag ≡ true → next ≡ tag_after last (steps + 1)
    → Passes commands last (steps + 1) next × (steps + 1 ≤ length commands)
passes-more commands last steps tag next p most few taken is =
    let here : is_taken commands (tag_after last steps) ≡ true = rw (← p.place) taken in
    let at_most = passes-few commands last steps tag p in
    let more = passed-more last steps commands most (omega arith) here in
    let counted : steps + 1 ≤ count_by (passed last (steps + 1)) commands = omega (arith, more, p.counted) in (
      record {
        place = is;
        taken = λ k below. elim (cases_lt k steps) [
          | inl before ↦ p.taken k before
          | inr same ↦ let equal : k ≡ steps = omega arith in rw equal here
        ];
        counted = counted;
      },
      omega (arith, counted, count_by-le-length (passed last (steps + 1)) commands),
    )
