-- The number of the path between two ports.
use Rattle.std.proofs.Common.{ℕ, ◌≡◌, ◌+◌, ◌*◌, ◌/◌, ◌%◌, List, length, Some, inl, inr, sym, ap, ◌∙◌, arith}
use Rattle.std.specs.Prelude.{position, slice_get}
use Rattle.std.specs.List.{position_or_len}
use Rattle.std.proofs.lemmas.Bool.{both_ways, cases_lt, lt-ltb}
use Rattle.std.proofs.lemmas.List.Sums.{fails_before_first, passes_at_first}
use Rattle.std.proofs.lemmas.Option.{get_or_from_slice_get, slice_get-get_or, slice_get_within}
use Rattle.std.proofs.Math.Nat.{mod-add-div'}
use Rattle.aoe_base.proofs.AddressLemmas.{same-address, same_address-refl}
use Rattle.aoe_base.specs.declared.address.Mac.{Mac}
use Rattle.aoe_base.specs.declared.counted.PathNo.{PathNo}
use Rattle.aoe_base.specs.Addresses.{same_address, IsDistinct}
use Rattle.aoe_history.specs.Setup.{path_no, HostSetup}
use Rattle.aoe_initiator.specs.declared.device.Attached.{Attached}
use Rattle.aoe_paths.specs.PathTable.{new_paths, pair_at}
use Rattle.aoe_paths.proofs.PairLemmas.{one-place, pair-split}

-- a port that stands at a place is found there
port-place : (ports : List Mac) (port : Mac) (i : ℕ) → IsDistinct ports → slice_get ports i ≡ Some port → position (same_address port) ports ≡ Some i
port-place ports port i distinct at =
    let first = position_or_len (same_address port) ports in
    let inside = slice_get_within ports i port at in
    elim (cases_lt first (length ports)) [
      | inl found ↦
          let mac = same-address port _ (passes_at_first (same_address port) ports port found) in
          let here = slice_get-get_or ports first port found ∙ ap Some (sym mac) in
          rw (lt-ltb _ _ found, one-place ports port first i distinct here at)
      | inr past ↦
          let other = fails_before_first (same_address port) ports i port (omega arith) in
          absurd (both_ways _ (rw (get_or_from_slice_get ports i port port at) at other) (same_address-refl port))
    ]

-- the path that joins two ports has the number that is counted of their places
pub path-given : (host : HostSetup) (d : Attached) (p : ℕ) (local remote : Mac) → IsDistinct host.ports → IsDistinct d.remotes.items
    → pair_at host.ports d.remotes.items p ≡ Some (local, remote) → path_no host d local remote ≡ record { 0 = p }
path-given host d p local remote locals remotes is =
    let at = pair-split (new_paths host.ports d.remotes.items) p local remote is in
    let whole = mod-add-div' p (length d.remotes.items) in
    let number : p / length d.remotes.items * length d.remotes.items + p % length d.remotes.items ≡ p = omega arith in
    rw (port-place host.ports local _ locals at.0, port-place d.remotes.items remote _ remotes at.1)
    (ap (λ (n : ℕ). let q : PathNo = record { 0 = n } in q) number)
