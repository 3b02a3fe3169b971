-- What passes over a link and what a clock answered, where they tell it, the latest first.
use Rattle.std.specs.Prelude.{ℕ, ◌≡◌, ◌<◌, ◌≤◌, ◌+◌, ◌-◌, ◌^◌, min, List, ◌++◌, length, Option, None, get_or}
use Rattle.std.specs.Option.{option_map}
use Rattle.aoe_io.specs.declared.links.Got.{Got}
use Rattle.aoe_io.specs.declared.links.Got.TheVariants as got

-- what an Ok call of recv gave: a frame, nothing, or that the link has ended
pub data Turn : Type 0 where
  came : List ℕ → Turn
  quiet : Turn
  ended : Turn

-- the turn that an answer and the frame with it say
abbrev pub turn_of : Got → List ℕ → Turn
turn_of got.Frame frame = came frame
turn_of got.Quiet frame = quiet
turn_of got.Ended frame = ended

-- these came to what is told, the latest first; telling neither begins nor ends
abbrev pub Added : {A : Type 0} → Option (List A) → Option (List A) → List A → Type 0
Added before after more = after ≡ option_map (λ told. more ++ told) before

-- the link gave these turns, where its count of turns, which is now so great, stayed below its type's end
abbrev pub GaveTurns : ℕ → Option (List Turn) → Option (List Turn) → List Turn → Type 0
GaveTurns turns before after given = turns < 2 ^ 64 - 1 → Added before after given

-- a link gave these turns, and its count of turns is greater by as many, up to the end of the count
pub record Turned (turned turned' : ℕ) (given given' : Option (List Turn)) (turns : List Turn) : Type 0 where
  pub gave : GaveTurns turned' given given' turns
  pub later : turned ≤ turned'
  pub counted : min turned' (2 ^ 64 - 1) ≡ min (turned + length turns) (2 ^ 64 - 1)

-- what comes in the next of these turns: a frame or nothing; nothing, too, where there are no more
abbrev pub next_of : List (Option (List ℕ)) → Option (List ℕ)
next_of coming = get_or coming 0 None
