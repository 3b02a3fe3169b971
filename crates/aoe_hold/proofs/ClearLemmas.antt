-- A clear command in the words of the parts.
use Rattle.std.proofs.Common.{ℕ, ◌≡◌, ◌&&◌, ◌||◌, not, Bool, true, false, List, get_or, arith, nat_lt}
use Rattle.std.specs.List.{list_any}
use Rattle.std.proofs.lemmas.Bool.{and_from, and_parts, ltb-true, lt-ltb, not-true, not_from_false}
use Rattle.std.proofs.lemmas.List.Folds.{list_any_none}
use Rattle.aoe_hold.specs.declared.command.Command.{Command}
use Rattle.aoe_hold.specs.declared.command.Stage.{Stage}
use Rattle.aoe_hold.specs.declared.command.Stage.TheVariants.{Unsent}
use Rattle.aoe_hold.specs.Commands.{all_gone, conflict, finished, has_effect, is_clear, is_unsent, keeps_back, rests_on_effects, unsent, IsClear}
use Rattle.aoe_hold.proofs.ListLemmas.{none-any}

unsent-is : (stage : Stage) → unsent stage ≡ true → stage ≡ Unsent
unsent-is stage is = grind arith

-- what an earlier command that keeps nothing back has
free-parts : (earlier in_conflict done effect rests gone : Bool) → (earlier && in_conflict && (not done || (effect && rests && not gone))) ≡ false
    → earlier ≡ true → in_conflict ≡ true → (done ≡ true) × (rests ≡ true → effect ≡ true → gone ≡ true)
free-parts earlier in_conflict done effect rests gone free is at = grind arith

free-from : (earlier in_conflict done effect rests gone : Bool) → (earlier ≡ true → in_conflict ≡ true → done ≡ true)
    → (rests ≡ true → earlier ≡ true → in_conflict ≡ true → effect ≡ true → gone ≡ true)
    → (earlier && in_conflict && (not done || (effect && rests && not gone))) ≡ false
free-from earlier in_conflict done effect rests gone is_done is_gone = grind arith

module _ (life now : ℕ) (entered : List Command) (c : Command) where
  pub clear-parts : is_clear life now entered c ≡ true → IsClear life now entered c
  clear-parts clear =
      let parts = and_parts (is_unsent c) (not (list_any (λ e. keeps_back life now e c) entered)) clear in
      let free = none-any (λ e. keeps_back life now e c) entered (not-true _ parts.1) in
      let each = λ (k : ℕ) (d : Command).
      let e = get_or entered k d in
      free-parts (nat_lt e.ticket.0 c.ticket.0) (conflict e c) (finished e.stage) (has_effect e.kind) (rests_on_effects c.kind) (all_gone life now e.stage)
      in
      record {
        never_sent = unsent-is c.stage parts.0;
        done = λ k d below before at. (each k d (free k d below) (lt-ltb _ _ before) at).0;
        gone = λ rests k d below before at. (each k d (free k d below) (lt-ltb _ _ before) at).1 rests;
      }

  pub clear-from : IsClear life now entered c → is_clear life now entered c ≡ true
  clear-from clear =
      let none = list_any_none (λ e. keeps_back life now e c) entered (λ k d below.
      let e = get_or entered k d in
      free-from (nat_lt e.ticket.0 c.ticket.0) (conflict e c) (finished e.stage) (has_effect e.kind) (rests_on_effects c.kind) (all_gone life now e.stage)
      (λ before at. clear.done k d below (ltb-true _ _ before) at) (λ rests before at. clear.gone rests k d below (ltb-true _ _ before) at))
      in
      and_from _ _ (rw clear.never_sent) (not_from_false _ none)
