use Rattle.std.proofs.Common.{◌==◌, ◌≡◌, true, length, take}
use Rattle.std.specs.List.{slice_split}
use Rattle.std.specs.Prelude.{All}
use Rattle.aoe_udp.specs.Addresses.{AreRead, IsAddress}
use Rattle.aoe_udp.proofs.address.read_peers.Given as goal

abbrev pub invariant-pieces : goal.invariant-pieces
invariant-pieces l = record {
  can : (goal.iterator-pieces).can_next l.piece-iterator;
  ends : (goal.iterator-pieces).is_finite l.piece-iterator;
  read : l.has_room ≡ true → AreRead (take (length l.yielded) (slice_split (λ c. c == 44) l.fn.text)) l.addresses.items;
  so_far : All IsAddress (take (length l.yielded) (slice_split (λ c. c == 44) l.fn.text));
}
