-- A turn of a link over a medium.
use Rattle.std.specs.Prelude.{ℕ, ◌≡◌, ◌-◌, ◌^◌, ◌⊎◌, List, [], ◌∷◌, length, nat_lt, Option, Some, None, is_some, Result, Ok, Err, if◌then◌else◌, IsSome}
use Rattle.aoe_base.specs.declared.failure.Failed.{Failed}
use Rattle.aoe_io.specs.declared.links.Got.{Got}
use Rattle.aoe_io.specs.declared.links.Got.TheVariants as got
use Rattle.aoe_wire.specs.Calls.{Taking}
use Rattle.aoe_wire.specs.declared.medium.Taken.{Taken}
use Rattle.aoe_wire.specs.declared.medium.Taken.TheVariants as taken

-- when the first thing was dropped in a turn that goes on after one was dropped at this time, and the first before. It is over
-- after 10,000 microseconds, and where the clock can't be read
abbrev pub goes_on : Option ℕ → Option ℕ → Option ℕ
goes_on begun None = None
goes_on None (Some at) = Some at
goes_on (Some first) (Some at) = if nat_lt (at - first) 10000 then Some first else None

-- in these calls, the latest first, nothing but what was dropped came, and the turn goes on; the first was dropped then
abbrev pub GoesOn : Option ℕ → List Taking → Type 0
GoesOn begun [] = begun ≡ None
GoesOn begun (latest ∷ takings) =
    (before at : Option ℕ) × GoesOn before takings × (latest.what ≡ taken.Dropped at) × (begun ≡ goes_on before at) × IsSome begun

-- what a call answers that ends a turn, where the first thing was dropped then
abbrev pub answer_of : Option ℕ → Taken → Option (Result Got Failed)
answer_of begun taken.Frame = Some (Ok got.Frame)
answer_of begun taken.Silence = Some (Ok got.Quiet)
answer_of begun taken.Fault = Some (Err record {})
answer_of begun (taken.Dropped at) = if is_some (goes_on begun at) then None else Some (Ok got.Quiet)

-- the latest call ended the turn, or the turn has had as many calls as it may; where a frame is answered, it is the one that came
pub record Ends (result : Result Got Failed) (frame : List ℕ) (begun : Option ℕ) (latest : Taking) (calls : ℕ) : Type 0 where
  pub answer : (answer_of begun latest.what ≡ Some result) ⊎ ((result ≡ Ok got.Quiet) × (calls ≡ 2 ^ 64 - 1))
  pub same : result ≡ Ok got.Frame → latest.frame ≡ frame

-- the calls of a turn, the latest first: until one ends it, nothing but what was dropped came
abbrev pub IsTurn : Result Got Failed → List ℕ → List Taking → Type 0
IsTurn result frame [] = ⊥
IsTurn result frame (latest ∷ takings) =
    (begun : Option ℕ) × GoesOn begun takings × Ends result frame begun latest (length (latest ∷ takings))
