-- The parts of a block, counted by how far they are.
use Rattle.std.proofs.Common.{◌≡◌, ◌≤◌, ◌<◌, ◌+◌, ℕ, Bool, true, false, cond, length, List, [], ◌∷◌, map, None, is_some, IsSome, arith, refl, ap, inl, inr, ◌⊎◌}
use Rattle.std.specs.List.{count_by, All}
use Rattle.std.proofs.lemmas.Bool.{cases_Bool}
use Rattle.std.proofs.lemmas.List.Elements.{All-head, All-tail}
use Rattle.std.proofs.lemmas.List.Sums.{sum_by-cons}
use Rattle.aoe_base.specs.declared.counted.Ticket.{Ticket}
use Rattle.aoe_initiator.specs.declared.outcome.Done.{Done}
use Rattle.aoe_block.specs.declared.stage.Stage.{Stage}
use Rattle.aoe_block.specs.declared.stage.Stage.TheVariants.{Pending, Handed, Ended, Failed}
use Rattle.aoe_block.specs.Calls.{after_done, hand, is_success, next_part, part_of, AreUpTo}
use Rattle.aoe_block.specs.Parts.{Part}
use Rattle.aoe_block.specs.Stages.{is_handed, is_pending, is_under_way}
use Rattle.aoe_desk.specs.Requests.{count_pending}

-- one where it is so
abbrev pub one_if : Bool → ℕ
one_if b = cond b 1 0

-- how many parts pass a test of how far they are
abbrev pub count : (Stage → Bool) → List Part → ℕ
count f parts = count_by (λ p. f p.stage) parts

pub count-cons : (f : Stage → Bool) (p : Part) (parts : List Part) → count f (p ∷ parts) ≡ one_if (f p.stage) + count f parts
count-cons f p parts = sum_by-cons (λ (q : Part). one_if (f q.stage)) p parts

pub stage_pending : (s : Stage) → is_pending s ≡ true → s ≡ Pending
stage_pending Pending is = refl
stage_pending _ is = absurd (cc)

pub handed_out : (ticket : ℕ) (s : Stage) → is_handed ticket s ≡ true → is_under_way s ≡ true
handed_out ticket (Handed own) is = refl
handed_out ticket _ is = absurd (cc)

pub handed_not_pending : (ticket : ℕ) (s : Stage) → is_handed ticket s ≡ true → is_pending s ≡ false
handed_not_pending ticket (Handed own) is = refl
handed_not_pending ticket _ is = absurd (cc)

-- where a part waits there is a next one
pub some_pending : (parts : List Part) → 0 < count_pending parts → IsSome (next_part parts)
some_pending [] some = absurd (omega (arith, some))
some_pending (p ∷ parts) some = elim (cases_Bool (is_pending p.stage)) [
  | inl waits ↦ rw waits refl
  | inr other ↦
      let e = count-cons is_pending p parts in
      let none : one_if (is_pending p.stage) ≡ 0 = rw other refl in
      rw other (some_pending parts (omega (arith, some, e, none)))
]

-- the next part is handed: it counts as one under way, and as one that waits no longer
pub hand-count : (f : Stage → Bool) (ticket : Ticket) (parts : List Part) → IsSome (next_part parts)
    → count f (hand ticket parts) + one_if (f Pending) ≡ count f parts + one_if (f (Handed ticket))
hand-count f ticket [] some = absurd (cc)
hand-count f ticket (p ∷ parts) some = elim (cases_Bool (is_pending p.stage)) [
  | inl waits ↦
      let a = count-cons f (record p { stage = Handed ticket }) parts in
      let b = count-cons f p parts in
      let s : one_if (f p.stage) ≡ one_if (f Pending) = ap (λ (s : Stage). one_if (f s)) (stage_pending p.stage waits) in
      let l : hand ticket (p ∷ parts) ≡ record p { stage = Handed ticket } ∷ parts = rw waits refl in
      let c = ap (count f) l in
      omega (arith, a, b, c, s)
  | inr other ↦
      let rest = hand-count f ticket parts (rw other at some) in
      let a = count-cons f p (hand ticket parts) in
      let b = count-cons f p parts in
      let l : hand ticket (p ∷ parts) ≡ p ∷ hand ticket parts = rw other refl in
      let c = ap (count f) l in
      omega (arith, a, b, c, rest)
]

-- a part that has its outcome is under way no longer
now_over : (write : Bool) (done : Done) (p : Part) → is_handed done.ticket.0 p.stage ≡ true
    → ((after_done write done p).stage ≡ Ended) ⊎ ((after_done write done p).stage ≡ Failed)
now_over write done p mine = elim (cases_Bool (is_success write p.count done.outcome)) [
  | inl well ↦ inl (rw (mine, well) refl)
  | inr badly ↦ inr (rw (mine, badly) refl)
]

not_counted : (f : Stage → Bool) → f Ended ≡ false → f Failed ≡ false → (s : Stage) → (s ≡ Ended) ⊎ (s ≡ Failed) → one_if (f s) ≡ 0
not_counted f ended failed s over = elim over [
  | inl e ↦ rw (e, ended) refl
  | inr e ↦ rw (e, failed) refl
]

other_same : (write : Bool) (done : Done) (p : Part) → is_handed done.ticket.0 p.stage ≡ false → after_done write done p ≡ p
other_same write done p other = rw other refl

-- of those that pass the test, the ones with the ticket go
pub settle-counted : (f : Stage → Bool) (write : Bool) (done : Done) → f Ended ≡ false → f Failed ≡ false
    → ((s : Stage) → is_handed done.ticket.0 s ≡ true → f s ≡ true) → (parts : List Part)
    → count f (map (after_done write done) parts) + count (is_handed done.ticket.0) parts ≡ count f parts
settle-counted f write done ended failed each [] = refl
settle-counted f write done ended failed each (p ∷ parts) =
    let rest = settle-counted f write done ended failed each parts in
    let a = count-cons f (after_done write done p) (map (after_done write done) parts) in
    let b = count-cons f p parts in
    let c = count-cons (is_handed done.ticket.0) p parts in
    elim (cases_Bool (is_handed done.ticket.0 p.stage)) [
      | inl mine ↦
          let x = not_counted f ended failed (after_done write done p).stage (now_over write done p mine) in
          let y : one_if (f p.stage) ≡ 1 = rw (each p.stage mine) refl in
          let z : one_if (is_handed done.ticket.0 p.stage) ≡ 1 = rw mine refl in
          omega (arith, rest, a, b, c, x, y, z)
      | inr other ↦
          let x : one_if (f (after_done write done p).stage) ≡ one_if (f p.stage)
          = ap (λ (q : Part). one_if (f q.stage)) (other_same write done p other) in
          let z : one_if (is_handed done.ticket.0 p.stage) ≡ 0 = rw other refl in
          omega (arith, rest, a, b, c, x, z)
    ]

-- where none of those with the ticket pass the test, as many pass as before
pub settle-same : (f : Stage → Bool) (write : Bool) (done : Done) → f Ended ≡ false → f Failed ≡ false
    → ((s : Stage) → is_handed done.ticket.0 s ≡ true → f s ≡ false) → (parts : List Part)
    → count f (map (after_done write done) parts) ≡ count f parts
settle-same f write done ended failed each [] = refl
settle-same f write done ended failed each (p ∷ parts) =
    let rest = settle-same f write done ended failed each parts in
    let a = count-cons f (after_done write done p) (map (after_done write done) parts) in
    let b = count-cons f p parts in
    elim (cases_Bool (is_handed done.ticket.0 p.stage)) [
      | inl mine ↦
          let x = not_counted f ended failed (after_done write done p).stage (now_over write done p mine) in
          let y : one_if (f p.stage) ≡ 0 = rw (each p.stage mine) refl in
          omega (arith, rest, a, b, x, y)
      | inr other ↦
          let x : one_if (f (after_done write done p).stage) ≡ one_if (f p.stage)
          = ap (λ (q : Part). one_if (f q.stage)) (other_same write done p other) in
          omega (arith, rest, a, b, x)
    ]

-- after any outcome no more parts than before are under way with a ticket
pub settle-fewer : (ticket : ℕ) (write : Bool) (done : Done) (parts : List Part)
    → count (is_handed ticket) (map (after_done write done) parts) ≤ count (is_handed ticket) parts
settle-fewer ticket write done [] = omega arith
settle-fewer ticket write done (p ∷ parts) =
    let rest = settle-fewer ticket write done parts in
    let a = count-cons (is_handed ticket) (after_done write done p) (map (after_done write done) parts) in
    let b = count-cons (is_handed ticket) p parts in
    elim (cases_Bool (is_handed done.ticket.0 p.stage)) [
      | inl mine ↦
          let x = not_counted (is_handed ticket) refl refl (after_done write done p).stage (now_over write done p mine) in
          omega (arith, rest, a, b, x)
      | inr other ↦
          let x : one_if (is_handed ticket (after_done write done p).stage) ≡ one_if (is_handed ticket p.stage)
          = ap (λ (q : Part). one_if (is_handed ticket q.stage)) (other_same write done p other) in
          omega (arith, rest, a, b, x)
    ]

-- a part with a ticket is counted, and where none is counted there is none
pub part_counts : (ticket : ℕ) (parts : List Part) → is_some (part_of ticket parts) ≡ true → 0 < count (is_handed ticket) parts
part_counts ticket [] some = absurd (cc)
part_counts ticket (p ∷ parts) some =
    let b = count-cons (is_handed ticket) p parts in
    elim (cases_Bool (is_handed ticket p.stage)) [
      | inl mine ↦ (let z : one_if (is_handed ticket p.stage) ≡ 1 = rw mine refl in omega (arith, b, z))
      | inr other ↦ (let rest = part_counts ticket parts (rw other at some) in omega (arith, b, rest))
    ]

pub none_counts : (ticket : ℕ) (parts : List Part) → part_of ticket parts ≡ None → count (is_handed ticket) parts ≡ 0
none_counts ticket [] none = refl
none_counts ticket (p ∷ parts) none =
    let b = count-cons (is_handed ticket) p parts in
    elim (cases_Bool (is_handed ticket p.stage)) [
      | inl mine ↦ absurd (let e = rw mine at none in cc)
      | inr other ↦
          let rest = none_counts ticket parts (rw other at none) in
          let z : one_if (is_handed ticket p.stage) ≡ 0 = rw other refl in
          omega (arith, b, rest, z)
    ]

-- with a ticket there are no more than are under way
pub with-le-out : (ticket : ℕ) (parts : List Part) → count (is_handed ticket) parts ≤ count is_under_way parts
with-le-out ticket [] = omega arith
with-le-out ticket (p ∷ parts) =
    let rest = with-le-out ticket parts in
    let a = count-cons (is_handed ticket) p parts in
    let b = count-cons is_under_way p parts in
    elim (cases_Bool (is_handed ticket p.stage)) [
      | inl mine ↦
          let y : one_if (is_under_way p.stage) ≡ 1 = rw (handed_out ticket p.stage mine) refl in
          let z : one_if (is_handed ticket p.stage) ≡ 1 = rw mine refl in
          omega (arith, rest, a, b, y, z)
      | inr other ↦ (let z : one_if (is_handed ticket p.stage) ≡ 0 = rw other refl in omega (arith, rest, a, b, z))
    ]

-- parts none of which was handed
pub all_wait : (parts : List Part) → All (λ p. p.stage ≡ Pending) parts → count_pending parts ≡ length parts
all_wait [] all = refl
all_wait (p ∷ parts) all =
    let rest = all_wait parts (All-tail (λ (q : Part). q.stage ≡ Pending) p parts all) in
    let a = count-cons is_pending p parts in
    let e = All-head (λ (q : Part). q.stage ≡ Pending) p parts all in
    let z : one_if (is_pending p.stage) ≡ 1 = rw e refl in
    omega (arith, rest, a, z)

pub none_out : (f : Stage → Bool) → f Pending ≡ false → (parts : List Part) → All (λ p. p.stage ≡ Pending) parts → count f parts ≡ 0
none_out f pending [] all = refl
none_out f pending (p ∷ parts) all =
    let rest = none_out f pending parts (All-tail (λ (q : Part). q.stage ≡ Pending) p parts all) in
    let a = count-cons f p parts in
    let e = All-head (λ (q : Part). q.stage ≡ Pending) p parts all in
    let z : one_if (f p.stage) ≡ 0 = rw (e, pending) refl in
    omega (arith, rest, a, z)

-- a ticket past those up to a number is past those up to a lower one
pub up_to-later : (last later : ℕ) (parts : List Part) → AreUpTo last parts → last ≤ later → AreUpTo later parts
up_to-later last later [] up le = tt
up_to-later last later (p ∷ parts) up le = (λ ticket is. let past = up.0 ticket is in omega (arith, past, le), up_to-later last later parts up.1 le)
