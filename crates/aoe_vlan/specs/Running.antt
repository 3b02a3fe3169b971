-- A run of a switch over a stream.
use Rattle.std.specs.Prelude.{ℕ, ◌≡◌, ◌+◌, ◌*◌, ◌<◌, ◌≤◌, ◌⊎◌, List, [], ◌∷◌, ◌++◌, length, All, Option, IfSome, ⊤}
use Rattle.std.specs.List.{flat_map}
use Rattle.aoe_base.specs.Sizes.{most_streamed}
use Rattle.aoe_io.specs.Bytes.{Gave, GaveSome, IsEnded, Took, TookSome}
use Rattle.aoe_io.specs.Stream.{framed}
use Rattle.aoe_vlan.specs.Switched.{Passing, given}
use Rattle.aoe_vlan.specs.Tables.{HasLearnt, Knowing}
use Rattle.aoe_vlan.specs.declared.port.PortKind.{PortKind}
use Rattle.aoe_vlan.specs.declared.over_stream.SwitchEnd.{SwitchEnd}
use Rattle.aoe_vlan.specs.declared.over_stream.SwitchEnd.TheVariants.{Ended, SourceFault, SinkFault, Stream, Limit}

-- a frame at a port on the stream: the number of the port, the length in two bytes, and the frame
abbrev pub piece : Passing → List ℕ
piece p = p.port ∷ framed p.frame

-- the stream of these, where the first comes first
abbrev pub pieces : List Passing → List ℕ
pieces outputs = flat_map piece outputs

-- the stream of inputs, of which the latest stands first
abbrev pub came : List Passing → List ℕ
came [] = []
came (i ∷ inputs) = came inputs ++ piece i

-- what may stand on the stream, where there are so many ports
pub record IsPiece (ports : ℕ) (p : Passing) : Type 0 where
  pub port : p.port < ports
  pub long : 14 ≤ length p.frame
  pub short : length p.frame ≤ 9022

-- bytes that end within a piece, or begin with a port that isn't there or a length that no frame has
abbrev pub IsCut : ℕ → List ℕ → Type 0
IsCut ports [] = ⊥
IsCut ports (port ∷ []) = ⊤
IsCut ports (port ∷ high ∷ []) = ⊤
IsCut ports (port ∷ high ∷ low ∷ rest) = let n = high * 256 + low in (ports ≤ port) ⊎ (n < 14) ⊎ (9022 < n) ⊎ (length rest < n)

-- what further inputs give behind those before
abbrev pub switched_behind : List PortKind → List Passing → List Passing → List Passing
switched_behind ports before [] = []
switched_behind ports before (i ∷ inputs) = switched_behind ports before inputs ++ given ports (inputs ++ before) i

-- the stream of what an input gives behind those before
unfoldable pub given_bytes : List PortKind → List Passing → Passing → List ℕ
given_bytes ports before i = pieces (given ports before i)

-- what stands in the source behind n frames of so many bytes, and what the run left of it
abbrev pub Stops : SwitchEnd → ℕ → ℕ → ℕ → Option (List ℕ) → Option (List ℕ) → Type 0
Stops Ended ports n taken behind left = (n < most_streamed) × IsEnded behind × (left ≡ behind)
Stops (Stream offset) ports n taken behind left = (n < most_streamed) × (offset ≡ taken) × IfSome behind (IsCut ports) × GaveSome behind left
Stops SourceFault ports n taken behind left = (n < most_streamed) × GaveSome behind left
Stops SinkFault ports n taken behind left = (n ≤ most_streamed) × (left ≡ behind)
Stops Limit ports n taken behind left = (n ≡ most_streamed) × (left ≡ behind)

-- the sink took what all inputs give but the last, and a part of what the last gives
abbrev pub FailedToWrite : List PortKind → List Passing → List Passing → Option (List ℕ) → Option (List ℕ) → Type 0
FailedToWrite ports before [] held held' = ⊥
FailedToWrite ports before (i ∷ inputs) held held' =
    (middle : Option (List ℕ)) × Took held middle (pieces (switched_behind ports before inputs))
    × TookSome middle held' (given_bytes ports (inputs ++ before) i)

-- what the sink took of what the inputs give: all, but where it failed
abbrev pub Writes : SwitchEnd → List PortKind → List Passing → List Passing → Option (List ℕ) → Option (List ℕ) → Type 0
Writes SinkFault ports before inputs held held' = FailedToWrite ports before inputs held held'
Writes _ ports before inputs held held' = Took held held' (pieces (switched_behind ports before inputs))

-- A run of a switch that learnt from the inputs before: the source gave the stream of further inputs, and the sink took the stream of what
-- they give.
pub record Ran (end : SwitchEnd) (old new : Knowing) (before : List Passing) (left left' held held' : Option (List ℕ)) : Type 0 where
  pub inputs : List Passing
  pub whole : All (IsPiece (length old.ports)) inputs
  pub learnt : HasLearnt new (inputs ++ before)
  pub behind : Option (List ℕ)
  pub gave : Gave left behind (came inputs)
  pub stops : Stops end (length old.ports) (length inputs) (length (came inputs)) behind left'
  pub writes : Writes end old.ports before inputs held held'

-- one input, whose frame has so many bytes, was taken, and the sink took what it gives
pub record Turned (n : ℕ) (old new : Knowing) (before : List Passing) (left left' held held' : Option (List ℕ)) : Type 0 where
  pub input : Passing
  pub whole : IsPiece (length old.ports) input
  pub count : n ≡ length input.frame
  pub gave : Gave left left' (piece input)
  pub learnt : HasLearnt new (input ∷ before)
  pub all : Took held held' (given_bytes old.ports before input)

-- the sink failed at what one input gives
pub record Breaks (ports : List PortKind) (new : Knowing) (before : List Passing) (left left' held held' : Option (List ℕ)) : Type 0 where
  pub input : Passing
  pub whole : IsPiece (length ports) input
  pub gave : Gave left left' (piece input)
  pub learnt : HasLearnt new (input ∷ before)
  pub some : TookSome held held' (given_bytes ports before input)

-- how the source ends a run of which offset bytes were taken
abbrev pub StopsAt : SwitchEnd → ℕ → ℕ → Option (List ℕ) → Option (List ℕ) → Type 0
StopsAt Ended ports offset left left' = IsEnded left × (left' ≡ left)
StopsAt (Stream at) ports offset left left' = (at ≡ offset) × IfSome left (IsCut ports) × GaveSome left left'
StopsAt SourceFault ports offset left left' = GaveSome left left'
StopsAt SinkFault ports offset left left' = ⊥
StopsAt Limit ports offset left left' = ⊥

-- how a turn ends a run of a switch that learnt from the inputs before
abbrev pub Ends : SwitchEnd → ℕ → Knowing → Knowing → List Passing → Option (List ℕ) → Option (List ℕ) → Option (List ℕ) → Option (List ℕ) → Type 0
Ends SinkFault offset old new before left left' held held' = Breaks old.ports new before left left' held held'
Ends end offset old new before left left' held held' = StopsAt end (length old.ports) offset left left' × (held' ≡ held) × (new ≡ old)
