-- The stage of one command changes.
use Rattle.std.proofs.Common.{ℕ, zero, suc, ◌≡◌, ◌+◌, ◌<◌, ◌&&◌, cond, Bool, true, false, List, [], ◌∷◌, length, get_or, set, Some, None, inl, inr, refl, sym, ap, ◌∙◌, arith, nat_eq}
use Rattle.std.specs.Prelude.{position, All}
use Rattle.std.specs.List.{find, list_any, position_or_len}
use Rattle.std.proofs.lemmas.Bool.{cases_Bool, cases_lt, eq-eqb, eqb-true, le-ltb, lt-ltb}
use Rattle.std.proofs.lemmas.List.{get_or_default}
use Rattle.std.proofs.lemmas.List.Elements.{All-cons, All-head, All-nil, All-tail}
use Rattle.std.proofs.lemmas.List.Folds.{find_at, list_any_none, map_fixed}
use Rattle.std.proofs.lemmas.List.Quantifiers.{position-Some}
use Rattle.std.proofs.lemmas.List.Sums.{sum_by-set}
use Rattle.std.proofs.lemmas.Option.{slice_get-get_or}
use Rattle.aoe_base.specs.declared.counted.Millis.{Millis}
use Rattle.aoe_hold.specs.declared.command.Command.{Command}
use Rattle.aoe_hold.specs.declared.command.Stage.{Stage}
use Rattle.aoe_hold.specs.Commands.{after_stage, is_unsent, stage_finished, stage_sent, unsent, unsent_count, with_stage}
use Rattle.aoe_hold.specs.HoldTable.{is_ascending}
use Rattle.aoe_hold.proofs.OrderLemmas.{ascending-rest, others-behind, others-missing}

all-kept : (ticket : ℕ) (change : Stage → Stage) (commands : List Command) → All (λ c. nat_eq c.ticket.0 ticket ≡ false) commands
    → after_stage ticket change commands ≡ commands
all-kept ticket change commands out = map_fixed _ _ (λ k d below. rw (out k d below) refl)

pub stage-missing : (ticket : ℕ) (change : Stage → Stage) (commands : List Command) → position (λ c. nat_eq c.ticket.0 ticket) commands ≡ None
    → after_stage ticket change commands ≡ commands
stage-missing ticket change commands missing = all-kept ticket change commands (others-missing (λ c. nat_eq c.ticket.0 ticket) commands missing)

-- the first with the ticket stands here
abbrev IsFirst : ℕ → List Command → ℕ → Command → Type 0
IsFirst ticket commands i d = (i < length commands) × (nat_eq (get_or commands i d).ticket.0 ticket ≡ true)
    × ((k : ℕ) → k < i → nat_eq (get_or commands k d).ticket.0 ticket ≡ false)

first-behind : (ticket : ℕ) (c : Command) (commands : List Command) (i : ℕ) (d : Command) → IsFirst ticket (c ∷ commands) (suc i) d
    → IsFirst ticket commands i d
first-behind ticket c commands i d first = (omega arith, first.1, λ k below. first.2 (suc k) (omega arith))

stage-there : (ticket : ℕ) (change : Stage → Stage) (commands : List Command) (i : ℕ) (d : Command) → is_ascending commands ≡ true
    → IsFirst ticket commands i d
    → set commands i (record (get_or commands i d) { stage = change (get_or commands i d).stage }) ≡ after_stage ticket change commands
stage-there ticket change [] i d up first = absurd (omega arith)
stage-there ticket change (c ∷ commands) zero d up first =
    rw (first.1, all-kept ticket change commands (others-behind ticket c commands up first.1)) refl
stage-there ticket change (c ∷ commands) (suc i) d up first =
    rw (first.2 0 (omega arith), stage-there ticket change commands i d (ascending-rest c commands up) (first-behind ticket c commands i d first)) refl

one-there : (ticket : ℕ) (p : Command → Bool) (commands : List Command) (i : ℕ) (d : Command) → is_ascending commands ≡ true
    → IsFirst ticket commands i d → list_any (λ e. nat_eq e.ticket.0 ticket && p e) commands ≡ p (get_or commands i d)
one-there ticket p [] i d up first = absurd (omega arith)
one-there ticket p (c ∷ commands) zero d up first =
    let others = others-behind ticket c commands up first.1 in
    let none = list_any_none (λ e. nat_eq e.ticket.0 ticket && p e) commands (λ k e below. rw (others k e below) refl) in
    rw (first.1, none) (grind arith)
one-there ticket p (c ∷ commands) (suc i) d up first =
    rw (first.2 0 (omega arith)) (one-there ticket p commands i d (ascending-rest c commands up) (first-behind ticket c commands i d first))

-- at this place stands the command with this ticket
pub record StandsAt (ticket : ℕ) (commands : List Command) (i : ℕ) (command : Command) : Type 0 where
  pub up : is_ascending commands ≡ true
  pub found : position (λ c. nat_eq c.ticket.0 ticket) commands ≡ Some i
  pub read : command ≡ get_or commands i command

-- the same of what is read there
pub stands-read : (ticket : ℕ) (commands : List Command) (i : ℕ) (d : Command) → is_ascending commands ≡ true
    → position (λ c. nat_eq c.ticket.0 ticket) commands ≡ Some i → StandsAt ticket commands i (get_or commands i d)
stands-read ticket commands i d up found = record {
  up = up;
  found = found;
  read = get_or_default commands i d _ (position-Some (λ c. nat_eq c.ticket.0 ticket) commands i d found).0;
}

module _ {ticket : ℕ} {commands : List Command} {i : ℕ} {command : Command} (at : StandsAt ticket commands i command) where
  first : IsFirst ticket commands i command
  first = position-Some (λ c. nat_eq c.ticket.0 ticket) commands i command at.found

  pub place-within : i < length commands
  place-within = first.0

  pub place-ticket : command.ticket.0 ≡ ticket
  place-ticket = ap (λ (c : Command). c.ticket.0) at.read ∙ eqb-true _ _ first.1

  -- what holds of the command alone that has the ticket
  pub one-at : (p : Command → Bool) → list_any (λ e. nat_eq e.ticket.0 ticket && p e) commands ≡ p command
  one-at p = one-there ticket p commands i command at.up first ∙ ap p (sym at.read)

  pub stage-set : (change : Stage → Stage) (stage : Stage) → stage ≡ change command.stage
      → set commands i (record command { stage = stage }) ≡ after_stage ticket change commands
  stage-set change stage is = rw is (rw at.read (stage-there ticket change commands i command at.up first))

  changed-count : (stage : Stage)
      → unsent_count (set commands i (record command { stage = stage })) + cond (is_unsent command) 1 0 ≡ unsent_count commands + cond (unsent stage) 1 0
  changed-count stage = rw (← at.read) at (sum_by-set (λ c. cond (is_unsent c) 1 0) commands i (record command { stage = stage }) command first.0)

  pub count-sent : (now : Millis) (stage : Stage) → stage ≡ stage_sent now command.stage
      → unsent_count (set commands i (record command { stage = stage })) + cond (is_unsent command) 1 0 ≡ unsent_count commands
  count-sent now stage is =
      let flying : cond (unsent stage) 1 zero ≡ 0 = rw is (grind arith) in
      omega (arith, changed-count stage, flying)

  pub count-finished : (stage : Stage) → stage ≡ stage_finished command.stage
      → unsent_count (set commands i (record command { stage = stage })) ≡ unsent_count commands
  count-finished stage is =
      let same : cond (unsent stage) 1 zero ≡ cond (is_unsent command) 1 0 = rw is (grind arith) in
      omega (arith, changed-count stage, same)

  pub new-ends : (stage : Stage) → stage ≡ stage_finished command.stage
      → (let made : Command = record command { stage = stage } in made) ≡ with_stage ticket stage_finished command
  new-ends stage is = rw (is, eq-eqb _ _ place-ticket) refl

-- ---- the command that is found by its ticket

pub find-at : (p : Command → Bool) (commands : List Command) (i : ℕ) (d : Command) → position p commands ≡ Some i
    → find p commands ≡ Some (get_or commands i d)
find-at p commands i d found = elim (cases_lt (position_or_len p commands) (length commands)) [
  | inl within ↦
      let same : Some (position_or_len p commands) ≡ Some i = rw (lt-ltb _ _ within) at found in
      let is : position_or_len p commands ≡ i = cc in
      find_at p commands ∙ rw is (slice_get-get_or commands i d (omega (arith, within, is)))
  | inr past ↦ let none : None ≡ Some i = rw (le-ltb _ _ past) at found in absurd cc
]

pub find-missing : (p : Command → Bool) (commands : List Command) → All (λ c. p c ≡ false) commands → find p commands ≡ None
find-missing p [] out = refl
find-missing p (c ∷ commands) out =
    rw (All-head (λ c. p c ≡ false) c commands out) (find-missing p commands (All-tail (λ c. p c ≡ false) c commands out))

pub find-none : (p : Command → Bool) (commands : List Command) → find p commands ≡ None → All (λ c. p c ≡ false) commands
find-none p [] none = All-nil (λ c. p c ≡ false)
find-none p (c ∷ commands) none = elim (cases_Bool (p c)) [
  | inl here ↦ let found : Some c ≡ None = rw here at none in absurd cc
  | inr other ↦ All-cons (λ c. p c ≡ false) c commands other (find-none p commands (rw other at none))
]

pub one-found : (ticket : ℕ) (commands : List Command) (e : Command) → is_ascending commands ≡ true
    → find (λ c. nat_eq c.ticket.0 ticket) commands ≡ Some e → (p : Command → Bool)
    → list_any (λ d. nat_eq d.ticket.0 ticket && p d) commands ≡ p e
one-found ticket [] e up found p = absurd cc
one-found ticket (c ∷ commands) e up found p = elim (cases_Bool (nat_eq c.ticket.0 ticket)) [
  | inl here ↦
      let same : Some c ≡ Some e = rw here at found in
      let is : c ≡ e = cc in
      let others = others-behind ticket c commands up here in
      let none = list_any_none (λ d. nat_eq d.ticket.0 ticket && p d) commands (λ k d below. rw (others k d below) refl) in
      rw (here, none, is) (grind arith)
  | inr other ↦ rw other (one-found ticket commands e (ascending-rest c commands up) (rw other at found) p)
]
