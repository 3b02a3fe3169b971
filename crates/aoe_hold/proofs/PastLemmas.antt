-- The time before which none of the commands is past, and from which on one is.
use Rattle.std.proofs.Common.{ℕ, ◌≡◌, ◌+◌, ◌^◌, ◌<◌, ◌≤◌, true, false, List, [], ◌∷◌, ◌++◌, inl, inr, length, get_or, min, set, take, not, ◌∙◌, arith}
use Rattle.std.specs.List.{list_any}
use Rattle.std.proofs.lemmas.Bool.{cases_lt, or_left, or_right}
use Rattle.std.proofs.lemmas.List.Folds.{list_any_at, list_any_more}
use Rattle.std.proofs.lemmas.List.{get_or-set_same, length-set, take_all}
use Rattle.std.proofs.lemmas.List.Elements.{All-map, All-more, All-push, All-set}
use Rattle.aoe_base.specs.declared.counted.Millis.{Millis}
use Rattle.aoe_hold.specs.declared.command.Command.{Command}
use Rattle.aoe_hold.specs.declared.command.Stage.TheVariants.{Unsent}
use Rattle.aoe_hold.specs.Commands.{after_stage, is_past, live, stage_finished, stage_sent, with_stage}
use Rattle.aoe_hold.specs.HoldTable.{NonePastBefore, OnePastFrom}
use Rattle.aoe_hold.proofs.ListLemmas.{any-implies, any-map, any-push}
use Rattle.aoe_hold.proofs.PlaceLemmas.{filter-same}

-- before that time all are kept
pub live-all : (life from now : ℕ) (commands : List Command) → NonePastBefore life from commands → now < from → commands ≡ live life now commands
live-all life from now commands none before = filter-same (λ c. not (is_past life now c)) commands (λ k d below. rw (none now before k d below))

pub past-entered : (life from : ℕ) (kept : List Command) (c : Command) → c.stage ≡ Unsent → NonePastBefore life from kept
    → NonePastBefore life from (kept ++ c ∷ [])
past-entered life from kept c fresh none now before = All-push (λ d. is_past life now d ≡ false) kept c (none now before) (rw fresh)

sent-past : (life t ticket : ℕ) (now : Millis) (c : Command) → is_past life t c ≡ false → is_past life t (with_stage ticket (stage_sent now) c) ≡ false
sent-past life t ticket now c out = grind arith

pub past-sent : (life from ticket : ℕ) (now : Millis) (commands : List Command) → NonePastBefore life from commands
    → NonePastBefore life from (after_stage ticket (stage_sent now) commands)
past-sent life from ticket now commands none t before =
    All-map (λ c. is_past life t c ≡ false) (with_stage ticket (stage_sent now)) commands (λ k d below. sent-past life t ticket now _ (none t before k d below))

pub past-ended : (life from more next i : ℕ) (commands : List Command) (ended : Command) → next ≡ min from more
    → ((now : ℕ) → now < more → is_past life now ended ≡ false) → NonePastBefore life from commands → NonePastBefore life next (set commands i ended)
past-ended life from more next i commands ended is late none now before =
    All-set (λ c. is_past life now c ≡ false) commands i ended (late now (omega arith)) (none now (omega arith))

-- of the commands so far none is past before that time
pub past-more : (life from more next i : ℕ) (commands : List Command) (d : Command) → next ≡ min from more → i < length commands
    → ((now : ℕ) → now < more → is_past life now (get_or commands i d) ≡ false)
    → NonePastBefore life from (take i commands) → NonePastBefore life next (take (i + 1) commands)
past-more life from more next i commands d is below late none now before =
    All-more (λ c. is_past life now c ≡ false) commands i d below (none now (omega arith)) (late now (omega arith))

pub past-whole : (life from i : ℕ) (commands : List Command) → length commands ≤ i → NonePastBefore life from (take i commands)
    → NonePastBefore life from commands
past-whole life from i commands least none now before = rw (take_all i commands least) at (none now before)

-- ---- from that time on one is past

pub one-none : (life from : ℕ) → 2 ^ 64 ≤ from → OnePastFrom life from []
one-none life from late now short after = absurd (omega arith)

pub one-more : (life from more next i : ℕ) (commands : List Command) (d : Command) → next ≡ min from more → i < length commands
    → ((now : ℕ) → now < 2 ^ 64 → more ≤ now → is_past life now (get_or commands i d) ≡ true)
    → OnePastFrom life from (take i commands) → OnePastFrom life next (take (i + 1) commands)
one-more life from more next i commands d is below late one now short after =
    list_any_more (is_past life now) commands i d below ∙ elim (cases_lt now from) [
      | inl early ↦ or_right (list_any (is_past life now) (take i commands)) _ (late now short (omega arith))
      | inr reached ↦ or_left _ (is_past life now (get_or commands i d)) (one now short reached)
    ]

pub one-whole : (life from i : ℕ) (commands : List Command) → length commands ≤ i → OnePastFrom life from (take i commands)
    → OnePastFrom life from commands
one-whole life from i commands least one now short after = rw (take_all i commands least) at (one now short after)

pub one-entered : (life from : ℕ) (kept : List Command) (c : Command) → OnePastFrom life from kept → OnePastFrom life from (kept ++ c ∷ [])
one-entered life from kept c one now short after = any-push (is_past life now) kept c ∙ or_left _ (is_past life now c) (one now short after)

past-sent-on : (life t ticket : ℕ) (now : Millis) (c : Command) → is_past life t c ≡ true → is_past life t (with_stage ticket (stage_sent now) c) ≡ true
past-sent-on life t ticket now c past = grind arith

pub one-sent : (life from ticket : ℕ) (now : Millis) (commands : List Command) → OnePastFrom life from commands
    → OnePastFrom life from (after_stage ticket (stage_sent now) commands)
one-sent life from ticket now commands one t short after =
    any-map (is_past life t) (with_stage ticket (stage_sent now)) commands
    ∙ any-implies (is_past life t) (λ c. is_past life t (with_stage ticket (stage_sent now) c)) (past-sent-on life t ticket now) commands (one t short after)

past-ended-on : (life t ticket : ℕ) (c : Command) → is_past life t c ≡ true → is_past life t (with_stage ticket stage_finished c) ≡ true
past-ended-on life t ticket c past = grind arith

-- the commands once one of them ended, by its place and by its ticket
pub one-ended : (life from more next i ticket : ℕ) (commands : List Command) (ended : Command) → next ≡ min from more → i < length commands
    → set commands i ended ≡ after_stage ticket stage_finished commands
    → ((now : ℕ) → now < 2 ^ 64 → more ≤ now → is_past life now ended ≡ true)
    → OnePastFrom life from commands → OnePastFrom life next (after_stage ticket stage_finished commands)
one-ended life from more next i ticket commands ended is below same late one t short after = elim (cases_lt t from) [
  | inl early ↦
      rw same at (list_any_at (is_past life t) (set commands i ended) i ended (rw (length-set commands i ended) below)
      (rw (get_or-set_same commands i ended ended below) (late t short (omega arith))))
  | inr reached ↦
      any-map (is_past life t) (with_stage ticket stage_finished) commands
      ∙ any-implies (is_past life t) (λ c. is_past life t (with_stage ticket stage_finished c)) (past-ended-on life t ticket) commands (one t short reached)
]
