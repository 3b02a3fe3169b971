-- A link in memory.
use Rattle.std.specs.Prelude.{ℕ, ◌≡◌, ◌-◌, ◌^◌, ◌<◌, ◌≤◌, ◌==◌, ◌||◌, List, [], ◌∷◌, ◌++◌, length, map, reverse, take, drop, replicate, nat_lt, nat_le, Option, Some, None, IfSome, Result, Ok, Err, if◌then◌else◌}
use Rattle.aoe_base.specs.declared.failure.Failed.{Failed}
use Rattle.aoe_base.specs.Sizes.{longest_frame}
use Rattle.aoe_io.specs.declared.links.Got.{Got}
use Rattle.aoe_io.specs.declared.links.Got.TheVariants as got
use Rattle.aoe_io.specs.Link.{Turn, came, quiet, ended}
use Rattle.aoe_io.specs.Memory.{counted}

-- the turns that are to come, each with its frame or quiet; the turns that were given and the frames that were
-- taken, the latest first; the room for all frames; the turns and the faults so far, and which coming call fails,
-- 0 where none does
pub record Linking : Type 0 where
  pub coming : List (Option (List ℕ))
  pub given : List Turn
  pub taken : List (List ℕ)
  pub room : ℕ
  pub turns : ℕ
  pub faults : ℕ
  pub due : ℕ

-- a frame is no longer than the longest
abbrev pub IsShort : Option (List ℕ) → Type 0
IsShort turn = IfSome turn (λ frame. length frame ≤ longest_frame)

-- what the link answers where these turns are to come
abbrev pub got_of : List (Option (List ℕ)) → Got
got_of [] = got.Ended
got_of (None ∷ coming) = got.Quiet
got_of (Some frame ∷ coming) = got.Frame

-- the turn that is given where these are to come
abbrev pub turn_next : List (Option (List ℕ)) → Turn
turn_next [] = ended
turn_next (None ∷ coming) = quiet
turn_next (Some frame ∷ coming) = came frame

-- the link after its next turn; the count of turns stands still at its type's end, and then the list does
abbrev pub passed : Linking → Linking
passed l = record l {
  coming = drop 1 l.coming;
  given = if nat_lt l.turns (2 ^ 64 - 1) then turn_next l.coming ∷ l.given else l.given;
  turns = counted l.turns;
}

-- what a recv answers and leaves
abbrev pub recv_of : Linking → Result Got Failed × Linking
recv_of l =
    if l.due == 1
    then (Err record {}, record l { faults = counted l.faults; due = l.due - 1 })
    else (Ok (got_of l.coming), record (passed l) { due = l.due - 1 })

-- what a send of a frame answers and leaves
abbrev pub send_of : Linking → List ℕ → Result Unit Failed × Linking
send_of l frame =
    if l.due == 1 || nat_le l.room (length l.taken) || nat_lt longest_frame (length frame)
    then (Err record {}, record l { faults = counted l.faults; due = l.due - 1 })
    else (Ok record {}, record l { taken = frame ∷ l.taken; due = l.due - 1 })

-- the turns that were given, where the first `at` of these have passed and a link that had no more was asked again
abbrev pub given_of : List (Option (List ℕ)) → ℕ → ℕ → List Turn
given_of all at turns = replicate (turns - at) ended ++ reverse (map (λ turn. turn_next (turn ∷ [])) (take at all))

-- each turn that was asked for passed, and only a link that had no more was asked again
pub record IsTurned (count at turns : ℕ) : Type 0 where
  pub within : at ≤ count
  pub asked : at ≤ turns
  pub each : at < count → turns ≡ at
