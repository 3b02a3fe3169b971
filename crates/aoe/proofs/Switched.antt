-- A run of a switch that had learnt nothing.
use Rattle.std.proofs.Common.{◌≡◌, ℕ, List, [], ◌∷◌, ◌++◌, length, Option, ap, subst, append-nil}
use Rattle.std.specs.Prelude.{All}
use Rattle.aoe_io.specs.Bytes.{Took, TookSome}
use Rattle.aoe_vlan.specs.Running.{IsPiece, Ran, Stops, Writes, came, given_bytes, pieces, switched_behind}
use Rattle.aoe_vlan.specs.Switched.{Passing, given, switched}
use Rattle.aoe_vlan.specs.Tables.{Knowing}
use Rattle.aoe_vlan.specs.declared.over_stream.SwitchEnd.{SwitchEnd}
use Rattle.aoe_vlan.specs.declared.over_stream.SwitchEnd.TheVariants as switch
use Rattle.aoe_vlan.specs.declared.port.PortKind.{PortKind}
use Rattle.aoe.specs.Ending.{switched_as}
use Rattle.aoe.specs.Switching.{AreApart, Switches, Takes}
use Rattle.aoe.specs.declared.status.Status.{Status}

given-first : (ports : List PortKind) (inputs : List Passing) (i : Passing) → given_bytes ports (inputs ++ []) i ≡ pieces (given ports inputs i)
unfolding given_bytes
given-first ports inputs i = ap (λ (l : List Passing). pieces (given ports l i)) (append-nil inputs)

module _ (first : (ports : List PortKind) (inputs : List Passing) → switched_behind ports [] inputs ≡ switched ports inputs) where
  all-taken : (ports : List PortKind) (inputs : List Passing) (held held' : Option (List ℕ)) → Took held held' (pieces (switched_behind ports [] inputs))
      → Took held held' (pieces (switched ports inputs))
  all-taken ports inputs held held' took = subst (λ (l : List Passing). Took held held' (pieces l)) (first ports inputs) took

  takes : (end : SwitchEnd) (ports : List PortKind) (inputs : List Passing) (held held' : Option (List ℕ)) → Writes end ports [] inputs held held'
      → Takes end ports inputs held held'
  takes switch.SinkFault ports [] held held' w = w
  takes switch.SinkFault ports (i ∷ inputs) held held' w =
      (w.0, all-taken ports inputs held w.0 w.1, subst (λ (bytes : List ℕ). TookSome w.0 held' bytes) (given-first ports inputs i) w.2)
  takes switch.Ended ports inputs held held' w = all-taken ports inputs held held' w
  takes switch.SourceFault ports inputs held held' w = all-taken ports inputs held held' w
  takes (switch.Stream offset) ports inputs held held' w = all-taken ports inputs held held' w
  takes switch.Limit ports inputs held held' w = all-taken ports inputs held held' w

  pub switches : (old new : Knowing) (ports : List PortKind) (end : SwitchEnd) (s : Status) (left left' held held' : Option (List ℕ))
      → old.ports ≡ ports → ((inputs : List Passing) → AreApart ports inputs) → s ≡ switched_as end
      → Ran end old new [] left left' held held' → Switches ports s left left' held held'
  switches old new ports end s left left' held held' same apart ends r = record {
    end = end;
    inputs = r.inputs;
    whole = subst (λ (p : List PortKind). All (IsPiece (length p)) r.inputs) same r.whole;
    behind = r.behind;
    gave = r.gave;
    stops = subst (λ (p : List PortKind). Stops end (length p) (length r.inputs) (length (came r.inputs)) r.behind left') same r.stops;
    takes = takes end ports r.inputs held held' (subst (λ (p : List PortKind). Writes end p [] r.inputs held held') same r.writes);
    apart = apart r.inputs;
    ends = ends;
  }
