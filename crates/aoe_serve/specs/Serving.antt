-- What a run of serve gives and takes over its link, by how it ended. The turns of the link and the frames that it took stand latest first.
use Rattle.std.specs.Prelude.{ℕ, ◌≡◌, ◌+◌, ◌<◌, List, [], ◌∷◌, ◌++◌, length, take, reverse, replicate, Option, Bool, true, false, ◌||◌, ◌⊎◌, nat_eq, Result, Ok, Err}
use Rattle.aoe_io.specs.Link.{Added, Turn, Turned, came, quiet, ended}
use Rattle.aoe_io.specs.declared.links.Got.{Got}
use Rattle.aoe_io.specs.declared.links.Got.TheVariants.{Frame, Quiet, Ended}
use Rattle.aoe_serve.specs.Arrivals.{Arrived, AreServed, frames, replies, replies_of}
use Rattle.aoe_serve.specs.Slots.{Slot}
use Rattle.aoe_serve.specs.declared.over_link.ServeEnd.{ServeEnd}
use Rattle.aoe_serve.specs.declared.over_link.ServeEnd.TheVariants as end

-- the frames that came in these turns, in the order of their coming
abbrev pub came_in : List Turn → List (List ℕ)
came_in [] = []
came_in (came f ∷ turns) = came_in turns ++ f ∷ []
came_in (quiet ∷ turns) = came_in turns
came_in (ended ∷ turns) = came_in turns

-- how many turns were quiet since the last that wasn't
abbrev pub quiet_since : List Turn → ℕ
quiet_since (quiet ∷ turns) = quiet_since turns + 1
quiet_since turns = 0

abbrev pub has_ended : List Turn → Bool
has_ended (ended ∷ turns) = true
has_ended turns = false

-- serve has no more to do: so many frames came, so many consecutive turns were quiet, or the link ended
abbrev pub is_over : ℕ → ℕ → List Turn → Bool
is_over limit idle turns = nat_eq (length (came_in turns)) limit || nat_eq (quiet_since turns) idle || has_ended turns

-- before each of these turns there was more to do
abbrev pub GoesOn : ℕ → ℕ → List Turn → Type 0
GoesOn limit idle [] = Unit {0}
GoesOn limit idle (t ∷ turns) = (is_over limit idle turns ≡ false) × GoesOn limit idle turns

-- the link failed to take a reply to the frame that the last turn brought, and took those before it
abbrev pub FailedToSend : List Turn → List Arrived → Option (List (List ℕ)) → Option (List (List ℕ)) → Type 0
FailedToSend (came f ∷ turns) (a ∷ h) before after =
    (n : ℕ) × (n < length (replies_of a.fates)) × Added before after (reverse (replies h ++ take n (replies_of a.fates)))
FailedToSend _ _ before after = ⊥

-- How a run ends: there is no more to do, and the link took all replies. Or it failed: in place of a further turn, or in the last round.
abbrev pub Finishes : ServeEnd → ℕ → ℕ → List Turn → List Arrived → Option (List (List ℕ)) → Option (List (List ℕ)) → Type 0
Finishes end.Ended limit idle turns arrivals before after = (is_over limit idle turns ≡ true) × Added before after (reverse (replies arrivals))
Finishes end.LinkFault limit idle turns arrivals before after =
    ((is_over limit idle turns ≡ false) × Added before after (reverse (replies arrivals))) ⊎ FailedToSend turns arrivals before after

-- the link took the replies: the first of them and not all where it failed, else all
abbrev pub Sends : {T E : Type 0} → Result T E → Option (List (List ℕ)) → Option (List (List ℕ)) → List (List ℕ) → Type 0
Sends (Ok u) before after replies = Added before after (reverse replies)
Sends (Err failed) before after replies = (n : ℕ) × (n < length replies) × Added before after (reverse (take n replies))

-- so many turns were quiet, and then came what else there is
abbrev pub Waited : {E : Type 0} → Result Got E → ℕ → List ℕ → List Turn → Type 0
Waited (Ok Frame) idle frame turns = (n : ℕ) × (n < idle) × (turns ≡ came frame ∷ replicate n quiet)
Waited (Ok Quiet) idle frame turns = turns ≡ replicate idle quiet
Waited (Ok Ended) idle frame turns = (n : ℕ) × (n < idle) × (turns ≡ ended ∷ replicate n quiet)
Waited (Err failed) idle frame turns = (n : ℕ) × (n < idle) × (turns ≡ replicate n quiet)

-- A run over a shelf and a link: each frame that the link gave came to each slot, and the link took the replies. A call of the link
-- that failed was the last.
pub record Served (e : ServeEnd) (limit idle start turned' : ℕ) (given given' : Option (List Turn)) (taken taken' : Option (List (List ℕ))) (old new : List Slot) : Type 0 where
  pub turns : List Turn
  pub arrivals : List Arrived
  pub frames_are : frames arrivals ≡ came_in turns
  pub served : AreServed old new arrivals
  pub turned : Turned start turned' given given' turns
  pub goes_on : GoesOn limit idle turns
  pub finishes : Finishes e limit idle turns arrivals taken taken'
