-- What a run of a switch writes of the frames that came, and how it ends.
use Rattle.std.specs.Prelude.{ℕ, ◌≡◌, List, [], ◌∷◌, length, All, Option}
use Rattle.aoe_io.specs.Bytes.{Gave, Took, TookSome}
use Rattle.aoe_vlan.specs.Running.{IsPiece, Stops, came, pieces}
use Rattle.aoe_vlan.specs.Switched.{IsAccess, Passing, at_port, given, inputs_of, switched, switched_from}
use Rattle.aoe_vlan.specs.declared.over_stream.SwitchEnd.{SwitchEnd}
use Rattle.aoe_vlan.specs.declared.over_stream.SwitchEnd.TheVariants.{SinkFault}
use Rattle.aoe_vlan.specs.declared.port.PortKind.{PortKind}
use Rattle.aoe.specs.Ending.{switched_as}
use Rattle.aoe.specs.declared.status.Status.{Status}

-- the sink took all that the inputs but the latest give, and a part of what the latest gives
abbrev pub TakesSome : List PortKind → List Passing → Option (List ℕ) → Option (List ℕ) → Type 0
TakesSome ports [] held held' = ⊥
TakesSome ports (i ∷ inputs) held held' =
    (middle : Option (List ℕ)) × Took held middle (pieces (switched ports inputs)) × TookSome middle held' (pieces (given ports inputs i))

-- what the sink took of what all inputs give: all of it, but where it failed
abbrev pub Takes : SwitchEnd → List PortKind → List Passing → Option (List ℕ) → Option (List ℕ) → Type 0
Takes SinkFault ports inputs held held' = TakesSome ports inputs held held'
Takes _ ports inputs held held' = Took held held' (pieces (switched ports inputs))

-- What is given of a VLAN's inputs is what they give alone, and a port of one VLAN gives what it gives where nothing comes of another.
pub record AreApart (ports : List PortKind) (inputs : List Passing) : Type 0 where
  pub each : (vid : ℕ) → switched_from ports vid inputs ≡ switched ports (inputs_of ports vid inputs)
  pub access : (port vid : ℕ) → IsAccess ports port vid → at_port port (switched ports inputs) ≡ at_port port (switched ports (inputs_of ports vid inputs))

-- A run of a switch of these ports that had learnt nothing: a source gave the stream of some inputs, a sink took what all of them give, and
-- the status says how it ended.
pub record Switches (ports : List PortKind) (s : Status) (left left' held held' : Option (List ℕ)) : Type 0 where
  pub end : SwitchEnd
  pub inputs : List Passing
  pub whole : All (IsPiece (length ports)) inputs
  pub behind : Option (List ℕ)
  pub gave : Gave left behind (came inputs)
  pub stops : Stops end (length ports) (length inputs) (length (came inputs)) behind left'
  pub takes : Takes end ports inputs held held'
  pub apart : AreApart ports inputs
  pub ends : s ≡ switched_as end
