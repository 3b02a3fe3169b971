-- A round: one frame for each slot of a shelf, and the replies for what takes them.
use Rattle.std.specs.Prelude.{ℕ, ◌≡◌, ◌≤◌, List, ◌++◌, length, Option, Result, Ok, Err, is_err, true}
use Rattle.aoe_base.specs.Faults.{Blamed}
use Rattle.aoe_base.specs.declared.failure.Failed.{Failed}
use Rattle.aoe_io.specs.Link.{Turn}
use Rattle.aoe_target.specs.Law.{Fate}
use Rattle.aoe_serve.specs.Arrivals.{MeetAll, replies_of}
use Rattle.aoe_serve.specs.Answering.{WritesTo}
use Rattle.aoe_serve.specs.Serving.{Sends}
use Rattle.aoe_serve.specs.ShelfLink.{with_room}
use Rattle.aoe_serve.specs.Slots.{Slot}
use Rattle.aoe_serve.specs.Written.{pieces}
use Rattle.aoe_serve.specs.declared.over_stream.Format.{Format}

-- that it was done, or failed
abbrev pub Outcome : Type 0
Outcome = Result (Unit {0}) Failed

-- a frame came to each slot, and its replies were taken
pub record Round (Took : List (List ℕ) → Type 0) (frame : List ℕ) (old new : List Slot) : Type 0 where
  pub fates : List Fate
  pub meets : MeetAll old new frame fates
  pub took : Took (replies_of fates)

-- the count of faults of an object that is called until it fails
pub record Counts (result : Outcome) (before after : ℕ) : Type 0 where
  pub later : before ≤ after
  pub blame : Blamed (is_err result ≡ true) before after

-- a sink took frames as they are written, or a part of them where it failed
pub record SinkTook (format : Format) (result : Outcome) (held held' : Option (List ℕ)) (faults faults' : ℕ) (frames : List (List ℕ)) : Type 0 where
  pub writes : WritesTo result held held' (pieces format frames)
  pub counts : Counts result faults faults'

-- a link took replies, or the first of them where it failed, and gave no turn
pub record LinkTook (result : Outcome) (taken taken' : Option (List (List ℕ))) (given given' : Option (List Turn)) (turns turns' faults faults' : ℕ) (replies : List (List ℕ)) : Type 0 where
  pub sends : Sends result taken taken' replies
  pub same_given : given' ≡ given
  pub same_turns : turns' ≡ turns
  pub counts : Counts result faults faults'

-- replies wait behind the others, where there is room
abbrev pub Keeps : Outcome → List (List ℕ) → List (List ℕ) → List (List ℕ) → Type 0
Keeps (Ok u) waiting waiting' replies = length waiting ≤ 64 → waiting' ≡ with_room (waiting ++ replies)
Keeps (Err failed) waiting waiting' replies = ⊥

-- what is taken of further replies: nothing after a failure
abbrev pub TakesOn : {O : Type 0} → (Outcome → O → O → List (List ℕ) → Type 0) → Outcome → Outcome → O → O → List (List ℕ) → Type 0
TakesOn Took (Ok u) result before after replies = Took result before after replies
TakesOn Took (Err failed) result before after replies = (result ≡ Err failed) × (after ≡ before)
