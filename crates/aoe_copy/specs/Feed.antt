-- What is left of an input that is read command by command.
use Rattle.std.specs.Prelude.{ℕ, ◌≡◌, ◌+◌, ◌%◌, ◌<◌, ◌≤◌, ◌⊎◌, List, [], ◌++◌, length, drop, Option}
use Rattle.aoe_io.specs.Bytes.{Gave, IsEnded}
use Rattle.aoe_copy.specs.declared.feed.Feed.{Feed}

-- the bytes of the front that weren't used
abbrev pub ahead : Feed → List ℕ
ahead f = drop f.used f.front.now

abbrev pub IsFeed : Feed → Type 0
IsFeed f = f.used ≤ length f.front.now

-- so many bytes were used of those that are left, first of the front, and then of the source
pub record Feeds (left left' : Option (List ℕ)) (ahead ahead' bytes : List ℕ) : Type 0 where
  pub fed : List ℕ
  pub gave : Gave left left' fed
  pub all : ahead ++ fed ≡ bytes ++ ahead'
  pub lean : (fed ≡ []) ⊎ (ahead' ≡ [])

-- a piece of the input: whole sectors, and so many bytes behind them, which are fewer than a sector; it is shorter than was wanted only
-- where the input ends
pub record IsPiece (want : ℕ) (left left' : Option (List ℕ)) (ahead ahead' sectors : List ℕ) (behind : ℕ) : Type 0 where
  pub rest : List ℕ
  pub rest_is : length rest ≡ behind
  pub feeds : Feeds left left' ahead ahead' (sectors ++ rest)
  pub whole : length sectors % 512 ≡ 0
  pub less : behind < 512
  pub most : length sectors + behind ≤ want
  pub short : length sectors + behind < want → IsEnded left' × (ahead' ≡ [])
