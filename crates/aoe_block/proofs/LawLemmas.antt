-- What follows from the calls of a block.
use Rattle.std.proofs.Common.{◌≡◌, ◌≤◌, ◌<◌, ◌*◌, ℕ, suc, Bool, true, false, List, [], ◌∷◌, Option, Some, None, length, map, if◌then◌else◌, arith, refl, ap, eq-eqb, inl, inr}
use Rattle.std.proofs.lemmas.Bool.{cases_Bool, cond_both, eqb-true, ne_eqb, or_cases, or_left, or_right}
use Rattle.std.proofs.lemmas.Option.{same_Some}
use Rattle.std.specs.List.{list_all, list_any, All}
use Rattle.aoe_base.specs.declared.counted.Ticket.{Ticket}
use Rattle.aoe_initiator.specs.declared.outcome.Done.{Done}
use Rattle.aoe_initiator.specs.declared.outcome.Outcome.{Outcome}
use Rattle.aoe_initiator.specs.declared.outcome.Outcome.TheVariants.{Read, Written}
use Rattle.aoe_block.specs.declared.stage.Stage.{Stage}
use Rattle.aoe_block.specs.declared.stage.Stage.TheVariants.{Pending, Handed, Ended, Failed}
use Rattle.aoe_block.specs.declared.took.Took.TheVariants.{More, Whole, Part as PartTook}
use Rattle.aoe_block.specs.Calls.{after_done, after_outcome, hand, is_read_or_written, is_success, op_of, part_of, took_as, AreUpTo, CanEnd}
use Rattle.aoe_block.specs.Parts.{Part}
use Rattle.aoe_block.specs.Stages.{is_ended, is_failed, is_handed, is_pending}

-- operations
op-stage : (write : Bool) (p : Part) (stage : Stage) → op_of write (record p { stage = stage }) ≡ op_of write p
op-stage true p stage = refl
op-stage false p stage = refl

pub op-hand : (write : Bool) (ticket : Ticket) (parts : List Part) → map (op_of write) (hand ticket parts) ≡ map (op_of write) parts
op-hand write ticket [] = refl
op-hand write ticket (p ∷ parts) = elim (cases_Bool (is_pending p.stage)) [
  | inl e ↦ rw (e, op-stage write p (Handed ticket))
  | inr e ↦ rw (e, op-hand write ticket parts)
]

op-outcome : (write : Bool) (outcome : Outcome) (p : Part) → op_of write (after_outcome write outcome p) ≡ op_of write p
op-outcome true Written p = refl
op-outcome true _ p = refl
op-outcome false outcome p = elim (cases_Bool (is_success false p.count outcome)) [ inl e ↦ rw e | inr e ↦ rw e ]

op-done : (write : Bool) (done : Done) (p : Part) → op_of write (after_done write done p) ≡ op_of write p
op-done write done p = elim (cases_Bool (is_handed done.ticket.0 p.stage)) [ inl e ↦ rw e (op-outcome write done.outcome p) | inr e ↦ rw e ]

pub op-settle : (write : Bool) (done : Done) (parts : List Part) → map (op_of write) (map (after_done write done) parts) ≡ map (op_of write) parts
op-settle write done [] = refl
op-settle write done (p ∷ parts) = rw (op-done write done p, op-settle write done parts) refl

-- failed parts
abbrev has_failed : List Part → Bool
has_failed parts = list_any (λ p. is_failed p.stage) parts

pub failed-hand : (ticket : Ticket) (parts : List Part) → has_failed parts ≡ true → has_failed (hand ticket parts) ≡ true
failed-hand ticket [] some = some
failed-hand ticket (p ∷ parts) some = at p.stage refl (failed-hand ticket parts)
  where
    at : (stage : Stage) → p.stage ≡ stage → (has_failed parts ≡ true → has_failed (hand ticket parts) ≡ true) → has_failed (hand ticket (p ∷ parts)) ≡ true
    at Pending is rest = let e = some in rw is (rw is at e)
    at Failed is rest = rw is refl
    at _ is rest = rw is (rest (rw is at some))

failed-done : (write : Bool) (done : Done) (p : Part) → is_failed p.stage ≡ true → is_failed (after_done write done p).stage ≡ true
failed-done write done p failed = at p.stage refl
  where
    at : (stage : Stage) → p.stage ≡ stage → is_failed (after_done write done p).stage ≡ true
    at Failed is = rw is refl
    at _ is = absurd (let e = rw is at failed in cc)

pub failed-settle : (write : Bool) (done : Done) (parts : List Part) → has_failed parts ≡ true → has_failed (map (after_done write done) parts) ≡ true
failed-settle write done [] some = some
failed-settle write done (p ∷ parts) some = elim (or_cases (is_failed p.stage) (has_failed parts) some) [
  | inl here ↦ or_left _ (has_failed (map (after_done write done) parts)) (failed-done write done p here)
  | inr behind ↦ or_right (is_failed (after_done write done p).stage) _ (failed-settle write done parts behind)
]

not_all : (parts : List Part) → has_failed parts ≡ true → list_all (λ p. is_ended p.stage) parts ≡ false
not_all [] some = absurd (cc)
not_all (p ∷ parts) some = at p.stage refl (not_all parts)
  where
    at : (stage : Stage) → p.stage ≡ stage → (has_failed parts ≡ true → list_all (λ p. is_ended p.stage) parts ≡ false)
        → list_all (λ p. is_ended p.stage) (p ∷ parts) ≡ false
    at Ended is rest = rw is (rest (rw is at some))
    at _ is rest = rw is refl

pub never_whole : (write : Bool) (done : Done) (found : Option Part) (parts : List Part) → has_failed parts ≡ true
    → took_as write done found (list_all (λ p. is_ended p.stage) (map (after_done write done) parts)) ≡ Whole → ⊥
never_whole write done found parts some whole = at found (rw (not_all (map (after_done write done) parts) (failed-settle write done parts some)) at whole)
  where
    at : (found : Option Part) → took_as write done found false ≡ Whole → ⊥
    at None is = cc
    at (Some p) is = elim (cases_Bool (is_success write p.count done.outcome)) [
      | inl well ↦ (let more = rw well at is in cc)
      | inr badly ↦ (let part = rw badly at is in cc)
    ]

-- the part that is told has failed
failed_found : (write : Bool) (done : Done) (parts : List Part) (p : Part) → part_of done.ticket.0 parts ≡ Some p
    → is_success write p.count done.outcome ≡ false
    → has_failed (map (after_done write done) parts) ≡ true
failed_found write done [] p found out = absurd (cc)
failed_found write done (q ∷ parts) p found out = elim (cases_Bool (is_handed done.ticket.0 q.stage)) [
  | inl mine ↦
      let same = same_Some q p (rw mine at found) in
      let badly : is_success write q.count done.outcome ≡ false = rw same out in
      rw (mine, badly)
  | inr other ↦ or_right (is_failed (after_done write done q).stage) _ (failed_found write done parts p (rw other at found) out)
]

pub part_breaks : (write : Bool) (done : Done) (outcome : Outcome) (ended : Bool) (parts : List Part)
    → took_as write done (part_of done.ticket.0 parts) ended ≡ PartTook outcome
    → has_failed (map (after_done write done) parts) ≡ true
part_breaks write done outcome ended parts told = at (part_of done.ticket.0 parts) refl
  where
    whole_or_more : (b : Bool) → (if b then Whole else More) ≡ PartTook outcome → ⊥
    whole_or_more true is = cc
    whole_or_more false is = cc

    at : (found : Option Part) → part_of done.ticket.0 parts ≡ found → has_failed (map (after_done write done) parts) ≡ true
    at None is = absurd (let h = rw is at told in cc)
    at (Some p) is = elim (cases_Bool (is_success write p.count done.outcome)) [
      | inl well ↦ absurd (whole_or_more ended (rw (is, well) at told))
      | inr badly ↦ failed_found write done parts p is badly
    ]

pub success_is : (write : Bool) (count : ℕ) (outcome : Outcome) → CanEnd write count outcome → is_success write count outcome ≡ is_read_or_written outcome
success_is write count (Read read) can = rw (can.0) (eq-eqb (length read) (512 * count) can.1)
success_is write count Written can = can
success_is write count _ can = refl

-- tickets
pub up_to-cut : (parts : List Part) → All (λ p. p.stage ≡ Pending) parts → AreUpTo 0 parts
up_to-cut [] pending = tt
up_to-cut (p ∷ parts) pending =
    (λ ticket is. absurd (let e = ap (is_handed ticket) (pending 0 p (omega arith)) in cc), up_to-cut parts (λ k d lt. pending (suc k) d (omega arith)))

pub up_to-fresh : (last : ℕ) (ticket : Ticket) (parts : List Part) → AreUpTo last parts → last < ticket.0 → part_of ticket.0 parts ≡ None
up_to-fresh last ticket [] up past = refl
up_to-fresh last ticket (p ∷ parts) up past = elim (cases_Bool (is_handed ticket.0 p.stage)) [
  | inl is ↦ absurd (let le = up.0 ticket.0 is in omega arith)
  | inr other ↦ rw other (up_to-fresh last ticket parts up.1 past)
]

up_to-more : (last more : ℕ) (parts : List Part) → AreUpTo last parts → last < more → AreUpTo more parts
up_to-more last more [] up lt = tt
up_to-more last more (p ∷ parts) up lt = (λ ticket is. let le = up.0 ticket is in omega arith, up_to-more last more parts up.1 lt)

pub up_to-hand : (last : ℕ) (ticket : Ticket) (parts : List Part) → AreUpTo last parts → last < ticket.0 → AreUpTo ticket.0 (hand ticket parts)
up_to-hand last ticket [] up lt = tt
up_to-hand last ticket (p ∷ parts) up lt = cond_both (is_pending p.stage) (record p { stage = Handed ticket } ∷ parts) (p ∷ hand ticket parts)
    (AreUpTo ticket.0)
    (λ pending. (λ t is. let e = eqb-true ticket.0 t is in omega arith, up_to-more last ticket.0 parts up.1 lt))
    (λ other. (λ t is. let le = up.0 t is in omega arith, up_to-hand last ticket parts up.1 lt))

pub up_to-settle : (last : ℕ) (write : Bool) (done : Done) (parts : List Part) → AreUpTo last parts → AreUpTo last (map (after_done write done) parts)
up_to-settle last write done [] up = tt
up_to-settle last write done (p ∷ parts) up = (at, up_to-settle last write done parts up.1)
  where
    at : (ticket : ℕ) → is_handed ticket (after_done write done p).stage ≡ true → ticket ≤ last
    at ticket is = elim (cases_Bool (is_handed done.ticket.0 p.stage)) [
      | inl mine ↦ elim (cases_Bool (is_success write p.count done.outcome)) [
        | inl well ↦ absurd (let e = rw (mine, well) at is in cc)
        | inr badly ↦ absurd (let e = rw (mine, badly) at is in cc)
      ]
      | inr other ↦ up.0 ticket (rw other at is)
    ]

-- a later ticket is free as before
pub later-hand : (later : ℕ) (ticket : Ticket) → ticket.0 < later → (parts : List Part) → part_of later parts ≡ None → part_of later (hand ticket parts) ≡ None
later-hand later ticket past [] free = refl
later-hand later ticket past (p ∷ parts) free = elim (cases_Bool (is_handed later p.stage)) [
  | inl own ↦ absurd (let some = rw own at free in cc)
  | inr other ↦
      let behind = rw other at free in
      cond_both (is_pending p.stage) (record p { stage = Handed ticket } ∷ parts) (p ∷ hand ticket parts) (λ l. part_of later l ≡ None)
      (λ pending. rw (ne_eqb ticket.0 later (λ e. omega (arith, e, past))) behind)
      (λ under_way. rw other (later-hand later ticket past parts behind))
]
