-- The number of a path and its pair of ports.
use Rattle.std.proofs.Common.{ℕ, zero, suc, ◌≡◌, ◌≢◌, ◌+◌, ◌*◌, ◌/◌, ◌%◌, ◌<◌, List, [], ◌∷◌, length, get_or, Option, Some, None, inl, inr, refl, sym, ap, ◌∙◌, arith}
use Rattle.std.specs.Prelude.{slice_get, position, option_map, option_and_then, bytes_eq}
use Rattle.std.specs.List.{position_or_len}
use Rattle.std.proofs.lemmas.Bool.{cases_lt, lt-ltb}
use Rattle.std.proofs.lemmas.Bool.Decides.{not_from_Decides}
use Rattle.std.proofs.lemmas.Nat.{div-mul-add, mod-mul-add}
use Rattle.std.proofs.lemmas.Option.{slice_get-get_or, slice_get_within, get_or_from_slice_get}
use Rattle.std.proofs.lemmas.List.Quantifiers.{position-Some}
use Rattle.std.proofs.lemmas.List.Sums.{fails_before_first}
use Rattle.std.proofs.lemmas.Slice.Eq.{bytes_eq-Decides}
use Rattle.std.proofs.Math.Nat.{div-lt_iff_lt-mul, mod-add-div'}
use Rattle.aoe_base.specs.declared.address.Mac.{Mac}
use Rattle.aoe_base.specs.Addresses.{IsDistinct}
use Rattle.aoe_paths.specs.PathTable.{PathTable, pair_of, path_count}

-- the ports at the two places of a path are its pair
pub pair-at : (table : PathTable) (p : ℕ) (local remote : Mac) → slice_get table.locals (p / length table.remotes) ≡ Some local
    → slice_get table.remotes (p % length table.remotes) ≡ Some remote
    → pair_of table p ≡ Some (local, remote)
pair-at table p local remote here there = rw (here, there) refl

both : (x y : Option Mac) (local remote : Mac) → option_and_then {U = Mac × Mac} (λ l. option_map {U = Mac × Mac} (λ r. (l, r)) y) x ≡ Some (local, remote)
    → (x ≡ Some local) × (y ≡ Some remote)
both None y local remote is = absurd cc
both (Some l) None local remote is = absurd cc
both (Some l) (Some r) local remote is =
    let found : Mac × Mac = (l, r) in
    let asked : Mac × Mac = (local, remote) in
    let same : found ≡ asked = cc in
    (ap (λ (p : Mac × Mac). Some p.0) same, ap (λ (p : Mac × Mac). Some p.1) same)

pub pair-split : (table : PathTable) (p : ℕ) (local remote : Mac) → pair_of table p ≡ Some (local, remote)
    → (slice_get table.locals (p / length table.remotes) ≡ Some local) × (slice_get table.remotes (p % length table.remotes) ≡ Some remote)
pair-split table p local remote is =
    both (slice_get table.locals (p / length table.remotes)) (slice_get table.remotes (p % length table.remotes)) local remote is

-- both places are within the ports
pub local-within : (p locals remotes : ℕ) → 0 < remotes → p < locals * remotes → p / remotes < locals
local-within p locals remotes some inside = (div-lt_iff_lt-mul some).1 inside

-- a port that is found stands at its place, and one that isn't stands nowhere
pub port-found : (ports : List Mac) (port : Mac) (i : ℕ) → position (λ other. bytes_eq other.0 port.0) ports ≡ Some i → slice_get ports i ≡ Some port
port-found ports port i is =
    let at = position-Some (λ (other : Mac). bytes_eq other.0 port.0) ports i port is in
    let same : (get_or ports i port).0 ≡ port.0 = (bytes_eq-Decides (get_or ports i port).0 port.0).0 at.1 in
    let mac : get_or ports i port ≡ port = ap (λ (bytes : List ℕ). let m : Mac = record { 0 = bytes } in m) same in
    slice_get-get_or ports i port at.0 ∙ ap (λ (m : Mac). Some m) mac

pub port-missing : (ports : List Mac) (port : Mac) (i : ℕ) → position (λ other. bytes_eq other.0 port.0) ports ≡ None → slice_get ports i ≡ Some port → ⊥
port-missing ports port i is at =
    let inside : i < length ports = slice_get_within ports i port at in
    let there : get_or ports i port ≡ port = get_or_from_slice_get ports i port port at in
    elim (cases_lt (position_or_len (λ (other : Mac). bytes_eq other.0 port.0) ports) (length ports)) [
      | inl found ↦ let yes_found = lt-ltb (position_or_len (λ (other : Mac). bytes_eq other.0 port.0) ports) (length ports) found in
          let impossible = rw yes_found at is in cc
      | inr past ↦
          let other = fails_before_first (λ (m : Mac). bytes_eq m.0 port.0) ports i port (omega arith) in
          not_from_Decides (bytes_eq (get_or ports i port).0 port.0) (bytes_eq-Decides (get_or ports i port).0 port.0) other (ap (λ (m : Mac). m.0) there)
    ]

-- an address that stands once has one place
pub one-place : (ports : List Mac) (port : Mac) (i j : ℕ) → IsDistinct ports → slice_get ports i ≡ Some port → slice_get ports j ≡ Some port → i ≡ j
one-place ports port i j distinct at_i at_j =
    let in_i : i < length ports = slice_get_within ports i port at_i in
    let in_j : j < length ports = slice_get_within ports j port at_j in
    let here : get_or ports i port ≡ port = get_or_from_slice_get ports i port port at_i in
    let there : get_or ports j port ≡ port = get_or_from_slice_get ports j port port at_j in
    elim (cases_lt i j) [
      | inl before ↦ absurd (distinct i j port before in_j (here ∙ sym there))
      | inr later ↦ elim (cases_lt j i) [ inl after ↦ absurd (distinct j i port after in_i (there ∙ sym here)) | inr same ↦ omega arith ]
    ]

-- the pair of the path whose number is made of two places
pub pair-of-number : (table : PathTable) (i j p : ℕ) (local remote : Mac) → p ≡ i * length table.remotes + j → slice_get table.locals i ≡ Some local
    → slice_get table.remotes j ≡ Some remote
    → pair_of table p ≡ Some (local, remote)
pair-of-number table i j p local remote is here there =
    let inside : j < length table.remotes = slice_get_within table.remotes j remote there in
    let first : p / length table.remotes ≡ i = rw is (div-mul-add i (length table.remotes) j inside) in
    let second : p % length table.remotes ≡ j = rw is (mod-mul-add i (length table.remotes) j inside) in
    pair-at table p local remote (rw first here) (rw second there)

-- no other path has that pair
pub one-number : (table : PathTable) (i j p q : ℕ) (local remote : Mac) → IsDistinct table.locals → IsDistinct table.remotes
    → p ≡ i * length table.remotes + j → slice_get table.locals i ≡ Some local → slice_get table.remotes j ≡ Some remote
    → pair_of table q ≡ Some (local, remote) → q ≡ p
one-number table i j p q local remote locals_differ remotes_differ is here there claim =
    let parts = pair-split table q local remote claim in
    let first : q / length table.remotes ≡ i = one-place table.locals local (q / length table.remotes) i locals_differ parts.0 here in
    let second : q % length table.remotes ≡ j = one-place table.remotes remote (q % length table.remotes) j remotes_differ parts.1 there in
    let whole : q % length table.remotes + q / length table.remotes * length table.remotes ≡ q = mod-add-div' q (length table.remotes) in
    let named : j + i * length table.remotes ≡ q = rw (first, second) at whole in
    omega (arith, named, is)

-- the ports that are read for a path
pub pair-read : (table : PathTable) (p n : ℕ) (locals remotes : List Mac) (d : Mac) → locals ≡ table.locals → remotes ≡ table.remotes → n ≡ length table.remotes
    → 0 < length table.remotes
    → p < path_count table → pair_of table p ≡ Some (get_or locals (p / n) d, get_or remotes (p % n) d)
pair-read table p n locals remotes d locals_are remotes_are n_is some inside =
    let first : p / length table.remotes < length table.locals = local-within p (length table.locals) (length table.remotes) some inside in
    let second : p % length table.remotes < length table.remotes = omega arith in
    rw (locals_are, remotes_are, n_is)
    (pair-at table p (get_or table.locals (p / length table.remotes) d) (get_or table.remotes (p % length table.remotes) d)
    (slice_get-get_or table.locals (p / length table.remotes) d first) (slice_get-get_or table.remotes (p % length table.remotes) d second))

-- two addresses that differ
pub distinct-two : (a b : Mac) → a ≢ b → IsDistinct (a ∷ b ∷ [])
distinct-two a b differ zero zero d before inside = absurd (omega arith)
distinct-two a b differ zero (suc zero) d before inside = differ
distinct-two a b differ zero (suc (suc j)) d before inside = absurd (omega arith)
distinct-two a b differ (suc i) zero d before inside = absurd (omega arith)
distinct-two a b differ (suc i) (suc zero) d before inside = absurd (omega arith)
distinct-two a b differ (suc i) (suc (suc j)) d before inside = absurd (omega arith)
