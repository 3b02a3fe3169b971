-- Sectors become known one after the other.
use Rattle.std.proofs.Common.{◌≡◌, ◌≢◌, ◌+◌, ◌*◌, ◌-◌, ℕ, List, true, false, cond, nat_eq, take, drop, Option, Some, None, refl, ap, subst, arith, inl, inr, eq-eqb, ne_eqb}
use Rattle.std.specs.Prelude.{IfSome, slice_range}
use Rattle.std.specs.Option.{option_or}
use Rattle.std.proofs.lemmas.Bool.{cases_eq, cases_lt}
use Rattle.std.proofs.lemmas.Bool.Decides.{nat_tests}
use Rattle.aoe_base.specs.declared.sectors.Span.{Span}
use Rattle.aoe_disk.specs.State.{sector}
use Rattle.aoe_target.specs.Sectors.{in_span, value_in}
use Rattle.aoe_audit.specs.Known.{AreAsKnown, KnownTable, value_of}

-- the first so many sectors of a span
abbrev pub first : ℕ → ℕ → Span
first at n = record { at = at; count = n }

pub in-none : (at q : ℕ) → in_span (first at 0) q ≡ false
in-none at q = grind (arith, nat_tests)

in-same : (at n q : ℕ) → at + n ≡ q → in_span (first at (n + 1)) q ≡ true
in-same at n q e = grind (arith, nat_tests)

in-other : (at n q : ℕ) → at + n ≢ q → in_span (first at (n + 1)) q ≡ in_span (first at n) q
in-other at n q e = grind (arith, nat_tests)

in-next : (at n : ℕ) → in_span (first at n) (at + n) ≡ false
in-next at n = grind (arith, nat_tests)

pub piece-is : (bytes : List ℕ) (n : ℕ) → slice_range bytes (512 * n) (512 * n + 512) ≡ sector bytes n
piece-is bytes n =
    let size : (512 * n + 512) - 512 * n ≡ 512 = omega arith in
    ap (λ k. take k (drop (512 * n) bytes)) size

module _ (at n q : ℕ) (bytes : List ℕ) (old : Option (List ℕ)) where
  pub put-more : cond (nat_eq (at + n) q) (Some (sector bytes n)) (cond (in_span (first at n) q) (Some (value_in (first at n) bytes q)) old)
      ≡ cond (in_span (first at (n + 1)) q) (Some (value_in (first at (n + 1)) bytes q)) old
  put-more = elim (cases_eq (at + n) q) [
    | inl same ↦
        let place : n ≡ q - at = omega (arith, same) in
        rw (eq-eqb (at + n) q same, in-same at n q same) (λ i. Some (sector bytes (place i)))
    | inr other ↦ rw (ne_eqb (at + n) q other, in-other at n q other) refl
  ]

  pub read-more : option_or (option_or old (cond (in_span (first at n) q) (Some (value_in (first at n) bytes q)) None))
      (cond (nat_eq (at + n) q) (Some (sector bytes n)) None)
      ≡ option_or old (cond (in_span (first at (n + 1)) q) (Some (value_in (first at (n + 1)) bytes q)) None)
  read-more = by old
    where
      by : (o : Option (List ℕ))
          → option_or (option_or o (cond (in_span (first at n) q) (Some (value_in (first at n) bytes q)) None))
          (cond (nat_eq (at + n) q) (Some (sector bytes n)) None)
          ≡ option_or o (cond (in_span (first at (n + 1)) q) (Some (value_in (first at (n + 1)) bytes q)) None)
      by (Some v) = refl
      by None = elim (cases_eq (at + n) q) [
        | inl same ↦
            let place : n ≡ q - at = omega (arith, same) in
            let before : in_span (first at n) q ≡ false = subst (λ (s : ℕ). in_span (first at n) s ≡ false) same (in-next at n) in
            rw (eq-eqb (at + n) q same, in-same at n q same, before) (λ i. Some (sector bytes (place i)))
        | inr other ↦ rw (ne_eqb (at + n) q other, in-other at n q other)
            (none-after (cond (in_span (first at n) q) (Some (value_in (first at n) bytes q)) None))
      ]
        where
          none-after : (o : Option (List ℕ)) → option_or o None ≡ o
          none-after None = refl
          none-after (Some v) = refl

pub lost-more : (at n q : ℕ) (old : Option (List ℕ)) → cond (nat_eq (at + n) q) None (cond (in_span (first at n) q) None old)
    ≡ cond (in_span (first at (n + 1)) q) None old
lost-more at n q old = elim (cases_eq (at + n) q) [
  | inl same ↦ rw (eq-eqb (at + n) q same, in-same at n q same) refl
  | inr other ↦ rw (ne_eqb (at + n) q other, in-other at n q other) refl
]

pub as-known-more : (at n : ℕ) (bytes : List ℕ) (old : KnownTable) → AreAsKnown (first at n) bytes old
    → IfSome (value_of old (at + n)) (λ v. sector bytes n ≡ v) → AreAsKnown (first at (n + 1)) bytes old
as-known-more at n bytes old before here i less = elim (cases_lt i n) [
  | inl lower ↦ before i lower
  | inr rest ↦
      let same : n ≡ i = omega (arith, less, rest) in
      subst (λ (k : ℕ). IfSome (value_of old (at + k)) (λ v. sector bytes k ≡ v)) same here
]
