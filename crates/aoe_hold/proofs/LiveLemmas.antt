-- What is past changes no answer.
use Rattle.std.proofs.Common.{ℕ, ◌≡◌, ◌≤◌, not, true, false, List, [], ◌∷◌, ◌++◌, map, refl, sym, ap, ◌∙◌, arith}
use Rattle.std.proofs.lemmas.Bool.{not-false}
use Rattle.std.proofs.lemmas.Bool.Decides.{nat_tests}
use Rattle.std.proofs.lemmas.List.Elements.{filter_agree, filter-append}
use Rattle.aoe_base.specs.declared.counted.Millis.{Millis}
use Rattle.aoe_hold.specs.declared.command.Command.{Command}
use Rattle.aoe_hold.specs.declared.command.Stage.{Stage}
use Rattle.aoe_hold.specs.declared.command.Stage.TheVariants.{Finished}
use Rattle.aoe_hold.specs.Commands.{after_stage, all_gone, clear_tickets, finished, is_clear, is_past, is_unsent, keeps_back, live, over, unsent, unsent_count, with_stage}
use Rattle.aoe_hold.specs.HoldTable.{HoldTable, Recalls}
use Rattle.aoe_hold.proofs.ListLemmas.{count_by-filter, filter-filter, filter-map, list_any-filter}

pub over-later : (life latest now : ℕ) (stage : Stage) → latest ≤ now → over life latest stage ≡ true → over life now stage ≡ true
over-later life latest now stage later is = grind (arith, nat_tests)

-- a change of stage that leaves what is finished
abbrev pub KeepsFinished : (Stage → Stage) → Type 0
KeepsFinished change = (last : Millis) → change (Finished last) ≡ Finished last

pub past-with_stage : (life now ticket : ℕ) (change : Stage → Stage) (c : Command) → KeepsFinished change → is_past life now c ≡ true
    → is_past life now (with_stage ticket change c) ≡ true
past-with_stage life now ticket change c keeps is = grind arith

pub past-finished : (life now : ℕ) (stage : Stage) → over life now stage ≡ true
    → (finished stage ≡ true) × (all_gone life now stage ≡ true) × (unsent stage ≡ false)
past-finished life now stage is = grind arith

past-keeps : (life now : ℕ) (earlier later : Command) → is_past life now earlier ≡ true → keeps_back life now earlier later ≡ false
past-keeps life now earlier later is = grind arith

module _ (life latest now : ℕ) where
  over-now : (c : Command) → latest ≤ now → not (is_past life latest c) ≡ false → is_past life now c ≡ true
  over-now c later out = over-later life latest now c.stage later (not-false _ out)

  -- what is past stays past
  pub live-live : (commands : List Command) → latest ≤ now → live life now (live life latest commands) ≡ live life now commands
  live-live commands later =
      filter-filter (λ c. not (is_past life latest c)) (λ c. not (is_past life now c)) (λ c out. ap not (over-now c later out)) commands

  pub live-same : (held entered : List Command) → latest ≤ now → live life latest held ≡ live life latest entered
      → live life now held ≡ live life now entered
  live-same held entered later same = sym (live-live held later) ∙ ap (live life now) same ∙ live-live entered later

  live-after_stage : (ticket : ℕ) (change : Stage → Stage) (commands : List Command) → latest ≤ now → KeepsFinished change
      → live life now (after_stage ticket change (live life latest commands)) ≡ live life now (after_stage ticket change commands)
  live-after_stage ticket change commands later keeps =
      filter-map (λ c. not (is_past life latest c)) (λ c. not (is_past life now c)) (with_stage ticket change)
      (λ c out. ap not (past-with_stage life now ticket change c keeps (over-now c later out))) commands

  pub recalls-after_stage : (ticket : ℕ) (change : Stage → Stage) (held entered : List Command) → latest ≤ now → KeepsFinished change
      → live life latest held ≡ live life latest entered
      → live life now (after_stage ticket change held) ≡ live life now (after_stage ticket change entered)
  recalls-after_stage ticket change held entered later keeps same =
      sym (live-after_stage ticket change held later keeps) ∙ ap (λ l. live life now (after_stage ticket change l)) same
      ∙ live-after_stage ticket change entered later keeps

  clear-live : (commands : List Command) (c : Command) → latest ≤ now → is_clear life now (live life latest commands) c ≡ is_clear life now commands c
  clear-live commands c later =
      rw (list_any-filter (λ e. not (is_past life latest e)) (λ e. keeps_back life now e c)
      (λ e out. past-keeps life now e c (over-now e later out)) commands) refl

  tickets-live : (commands : List Command) → latest ≤ now → clear_tickets life now (live life latest commands) ≡ clear_tickets life now commands
  tickets-live commands later =
      ap (map (λ c. c.ticket.0))
      (filter_agree _ (is_clear life now commands) (λ c. clear-live commands c later) (live life latest commands)
      ∙ filter-filter (λ c. not (is_past life latest c)) (is_clear life now commands)
      (λ c out. rw (past-finished life now c.stage (over-now c later out)).2 refl) commands)

  -- two lists that differ in what is past have the same clear commands
  pub tickets-same : (held entered : List Command) → latest ≤ now → live life latest held ≡ live life latest entered
      → clear_tickets life now held ≡ clear_tickets life now entered
  tickets-same held entered later same = sym (tickets-live held later) ∙ ap (clear_tickets life now) same ∙ tickets-live entered later

module _ (life latest : ℕ) where
  pub recalls-enter : (c : Command) (held entered : List Command) → live life latest held ≡ live life latest entered
      → live life latest (held ++ c ∷ []) ≡ live life latest (entered ++ c ∷ [])
  recalls-enter c held entered same = rw (filter-append _ held (c ∷ []), filter-append _ entered (c ∷ []), same) refl

  pub count-live : (commands : List Command) → unsent_count (live life latest commands) ≡ unsent_count commands
  count-live commands =
      count_by-filter (λ c. not (is_past life latest c)) is_unsent (λ c out. (past-finished life latest c.stage (not-false _ out)).2) commands

  pub count-same : (held entered : List Command) → live life latest held ≡ live life latest entered → unsent_count held ≡ unsent_count entered
  count-same held entered same = sym (count-live held) ∙ ap unsent_count same ∙ count-live entered

-- what the table has is what its fields have
pub recalls-view : (view table : HoldTable) (entered : List Command) → view ≡ table → Recalls table entered → Recalls view entered
recalls-view view table entered is recalls = rw is recalls
