-- Where the commands stand that keep another back.
use Rattle.std.proofs.Common.{ℕ, zero, suc, ◌≡◌, ◌+◌, ◌<◌, ◌≤◌, Bool, true, false, List, [], ◌∷◌, length, get_or, drop, take, inl, inr, refl, arith}
use Rattle.std.proofs.lemmas.List.{get_or-drop, get_or-take, length-drop, length-take, take-map}
use Rattle.std.specs.List.{list_any}
use Rattle.std.proofs.lemmas.Bool.{cases_lt}
use Rattle.std.proofs.lemmas.List.Elements.{All-map, All-more, All-nil}
use Rattle.std.proofs.lemmas.List.Folds.{list_any_none}
use Rattle.aoe_hold.specs.declared.command.Command.{Command}
use Rattle.aoe_hold.specs.declared.command.Stage.{Stage}
use Rattle.aoe_hold.specs.Commands.{after_stage, is_past, with_stage}
use Rattle.aoe_hold.specs.HoldTable.{ArePast}
use Rattle.aoe_hold.specs.Queue.{blocks, is_blocked, lingers, AreOutside}
use Rattle.aoe_hold.proofs.IndexLemmas.{past-blocks, past-lingers}
use Rattle.aoe_hold.proofs.LiveLemmas.{over-later, past-with_stage, KeepsFinished}

past-at : (life latest gone : ℕ) (commands : List Command) (k : ℕ) (d : Command) → ArePast life latest gone commands → k < gone → k < length commands
    → is_past life latest (get_or commands k d) ≡ true
past-at life latest gone commands k d past before within =
    rw (get_or-take gone commands k d before) at (past k d (omega (arith, length-take gone commands)))

any-drop : (p : Command → Bool) (xs : List Command) (i : ℕ) → ((k : ℕ) (d : Command) → k < i → k < length xs → p (get_or xs k d) ≡ false)
    → list_any p xs ≡ list_any p (drop i xs)
any-drop p xs zero out = refl
any-drop p [] (suc i) out = refl
any-drop p (x ∷ xs) (suc i) out = rw (out 0 x (omega arith) (omega arith)) (any-drop p xs i (λ k d before within. out (suc k) d (omega arith) (omega arith)))

module _ {life latest first until : ℕ} {commands : List Command} {c : Command} (outside : AreOutside life latest first until commands c) where
  -- none of the others is an unfinished one in conflict
  pub outside-free : (left : ℕ) → left ≤ first → ((k : ℕ) (d : Command) → left ≤ k → k < until → blocks c (get_or commands k d) ≡ false)
      → is_blocked commands c ≡ false
  outside-free left least none = list_any_none (blocks c) commands (λ k d within. elim (cases_lt k first) [
    | inl before ↦ past-blocks life latest c _ (past-at life latest first commands k d outside.past before within)
    | inr from ↦ elim (cases_lt k until) [
      | inl inside ↦ none k d (omega arith) inside
      | inr behind ↦ rw (outside.later k d behind within)
    ]
  ])

  -- no frame of those behind lingers
  pub behind-none : (now : ℕ) → list_any (λ e. lingers life now c e) (drop until commands) ≡ false
  behind-none now = list_any_none (λ e. lingers life now c e) (drop until commands) (λ k d within.
      rw (get_or-drop until commands k d, outside.later (until + k) d (omega arith) (omega (arith, length-drop until commands, within))))

  -- nor of those in front
  pub front-none : (left now : ℕ) → left ≤ first → latest ≤ now
      → list_any (λ e. lingers life now c e) commands ≡ list_any (λ e. lingers life now c e) (drop left commands)
  front-none left now least later = any-drop (λ e. lingers life now c e) commands left (λ k d before within.
      past-lingers life latest now c _ later (past-at life latest first commands k d outside.past (omega arith) within))

-- ---- the first commands are past, after each change

pub gone-later : (life latest now gone : ℕ) (commands : List Command) → latest ≤ now → ArePast life latest gone commands → ArePast life now gone commands
gone-later life latest now gone commands later past = λ k d within. over-later life latest now _ later (past k d within)

pub gone-stage : (life latest now gone ticket : ℕ) (change : Stage → Stage) (commands : List Command) → KeepsFinished change → latest ≤ now
    → ArePast life latest gone commands → ArePast life now gone (after_stage ticket change commands)
gone-stage life latest now gone ticket change commands keeps later past =
    rw (take-map (with_stage ticket change) gone commands)
    (All-map (λ c. is_past life now c ≡ true) (with_stage ticket change) (take gone commands) (λ k d within.
    past-with_stage life now ticket change (get_or (take gone commands) k d) keeps (gone-later life latest now gone commands later past k d within)))

pub gone-none : (life latest : ℕ) (commands : List Command) → ArePast life latest 0 commands
gone-none life latest commands = All-nil (λ c. is_past life latest c ≡ true)

pub gone-more : (life latest gone : ℕ) (commands : List Command) (d : Command) → gone < length commands → is_past life latest (get_or commands gone d) ≡ true
    → ArePast life latest gone commands → ArePast life latest (gone + 1) commands
gone-more life latest gone commands d within is past = All-more (λ c. is_past life latest c ≡ true) commands gone d within past is
