-- The values of a slab, as a walk sees them.
use Rattle.std.proofs.Common.{ℕ, ◌≡◌, ◌+◌, ◌≤◌, cond, not, List, [], ◌∷◌, length, filter_map, Option, Some, None, refl, ap, ◌∙◌, arith, zero-add}
use Rattle.std.specs.Prelude.{is_some}
use Rattle.std.specs.List.{count_by}
use Rattle.std.proofs.lemmas.List.Sums.{count_by-le-length, length-filter, sum_by-cons}
use Rattle.slab.specs.Slab.{entries_from}
use Rattle.aoe_flight.specs.declared.outstanding.Outstanding.{Outstanding}
use Rattle.aoe_flight.specs.Outstanding.{is_over, live}

-- the values of the entries that are left
abbrev pub left : List (ℕ × Outstanding) → List Outstanding
left [] = []
left (e ∷ es) = e.1 ∷ left es

abbrev pub held : List (Option Outstanding) → List Outstanding
held slots = filter_map (λ slot. slot) slots

pub entries-held : (key : ℕ) (slots : List (Option Outstanding)) → held slots ≡ left (entries_from key slots)
entries-held key [] = refl
entries-held key (None ∷ slots) = entries-held (key + 1) slots
entries-held key (Some c ∷ slots) = ap (λ (l : List Outstanding). c ∷ l) (entries-held (key + 1) slots)

pub length-held : (slots : List (Option Outstanding)) → count_by is_some slots ≡ length (held slots)
length-held [] = refl
length-held (None ∷ slots) = sum_by-cons (λ (s : Option Outstanding). cond (is_some s) 1 0) None slots ∙ zero-add (count_by is_some slots) ∙ length-held slots
length-held (Some c ∷ slots) = sum_by-cons (λ (s : Option Outstanding). cond (is_some s) 1 0) (Some c) slots ∙ omega (arith, length-held slots)

pub live-shorter : (rest now : ℕ) (commands : List Outstanding) → length (live rest now commands) ≤ length commands
live-shorter rest now commands =
    omega (
      arith,
      length-filter (λ (c : Outstanding). not (is_over rest now c)) commands,
      count_by-le-length
          (λ (c : Outstanding). not (is_over rest now c)) commands,
    )
