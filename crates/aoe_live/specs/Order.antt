-- The commands of a run in their order.
use Rattle.std.specs.Prelude.{ℕ, ◌≡◌, ◌+◌, ◌<◌, ◌≤◌, ◌==◌, ◌||◌, Bool, true, false, List, [], ◌∷◌, length, Some}
use Rattle.aoe_history.specs.declared.entry.Entry.{Entry}
use Rattle.aoe_history.specs.declared.entry.Entry.TheVariants.{Done}
use Rattle.aoe_history.specs.Asks.{submission_in}
use Rattle.aoe_history.specs.Commands.{Submission}
use Rattle.aoe_live.specs.Stations.{command}
use Rattle.aoe_live.specs.Tally.{submissions}

-- whether the command with a ticket has its outcome
abbrev pub has_outcome : ℕ → List Entry → Bool
has_outcome n [] = false
has_outcome n (Done host ticket outcome ∷ h) = (ticket == n) || has_outcome n h
has_outcome n (_ ∷ h) = has_outcome n h

-- what was submitted, the latest first, is what the commands ask for, one after another from the first on
abbrev pub AreAsked : (sectors count : ℕ) → List Submission → Type 0
AreAsked sectors count [] = Unit {0}
AreAsked sectors count (x ∷ earlier) = (submission_in (command sectors count (length earlier)) ≡ Some x) × AreAsked sectors count earlier

-- the commands were submitted in order, the flush last, and each but the latest has its outcome
pub record InOrder (sectors count : ℕ) (h : List Entry) : Type 0 where
  pub asked : AreAsked sectors count (submissions h)
  pub few : length (submissions h) ≤ count + 1
  pub each_done : (ticket : ℕ) → 1 ≤ ticket → ticket < length (submissions h) → has_outcome ticket h ≡ true
