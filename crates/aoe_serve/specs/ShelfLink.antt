-- A link to a shelf in the same process, as contracts see it.
use Rattle.std.specs.Prelude.{ℕ, ◌≡◌, List, [], ◌∷◌, ◌++◌, take}
use Rattle.aoe_io.specs.declared.links.Got.{Got}
use Rattle.aoe_io.specs.declared.links.Got.TheVariants as got
use Rattle.aoe_shelf.specs.Shelf.{ShelfTable}
use Rattle.aoe_target.specs.Law.{Fate}
use Rattle.aoe_serve.specs.Arrivals.{MeetAll, replies_of}
use Rattle.aoe_serve.specs.Slots.{Slot}

-- the shelf, the replies that wait, the first of them to be given first, and how many turns there were
pub record Linked (S D : Type 0) : Type 0 where
  pub shelf : ShelfTable S D
  pub waiting : List (List ℕ)
  pub turns : ℕ

-- as many of the frames as there is room for
abbrev pub with_room : List (List ℕ) → List (List ℕ)
with_room frames = take 64 frames

-- a frame came to each slot, and the replies wait behind the others, where there is room
pub record Hands (frame : List ℕ) (waiting waiting' : List (List ℕ)) (old new : List Slot) : Type 0 where
  pub fates : List Fate
  pub meets : MeetAll old new frame fates
  pub waits : waiting' ≡ with_room (waiting ++ replies_of fates)

-- what a turn brings where these wait
abbrev pub got_of : List (List ℕ) → Got
got_of [] = got.Quiet
got_of (frame ∷ waiting) = got.Frame
