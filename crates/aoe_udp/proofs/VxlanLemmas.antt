-- What is sent on a network is taken on that one alone.
use Rattle.std.proofs.Common.{ℕ, ◌≡◌, ◌≢◌, ◌≤◌, ◌+◌, ◌*◌, ◌/◌, ◌%◌, ◌==◌, List, length, nat_le, Some, None, true, false, refl, arith}
use Rattle.std.proofs.lemmas.Bool.Decides.{nat_tests}
use Rattle.aoe_wire.specs.Frames.{is_aoe}
use Rattle.aoe_udp.specs.Vxlan.{datagram_of, frame_of}

-- the number that the three bytes of a number say
number : (vni : ℕ) → vni ≤ 16777215 → vni / 65536 * 65536 + vni / 256 % 256 * 256 + vni % 256 ≡ vni
number vni few = omega (arith, few)

-- a datagram of a network has its header
long : (vni : ℕ) (frame : List ℕ) → nat_le 8 (length (datagram_of (Some vni) frame)) ≡ true
long vni frame = grind (arith, nat_tests)

is_number : (a b : ℕ) → a ≡ b → (a == b) ≡ true
is_number a b e = grind (arith, nat_tests, e)

is_no_number : (a b c : ℕ) → a ≡ b → c ≢ b → (a == c) ≡ false
is_no_number a b c e other = grind (arith, nat_tests, e, other)

module _ (vni : ℕ) (frame : List ℕ) (few : vni ≤ 16777215) where
  pub same : is_aoe frame ≡ true → frame_of (Some vni) (datagram_of (Some vni) frame) ≡ Some frame
  same aoe = rw (long vni frame, is_number (vni / 65536 * 65536 + vni / 256 % 256 * 256 + vni % 256) vni (number vni few), aoe) refl

  pub other : (vni' : ℕ) → vni' ≢ vni → frame_of (Some vni') (datagram_of (Some vni) frame) ≡ None
  other vni' differs =
      rw (long vni frame, is_no_number (vni / 65536 * 65536 + vni / 256 % 256 * 256 + vni % 256) vni vni' (number vni few) differs) refl
