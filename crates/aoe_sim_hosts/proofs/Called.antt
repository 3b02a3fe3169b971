-- A host and its name.
use Rattle.std.proofs.Common.{ℕ, ◌≡◌, true, Some, sym, ◌∙◌}
use Rattle.std.proofs.lemmas.List.Folds.{find_at}
use Rattle.std.proofs.lemmas.List.Sums.{passes_at_first}
use Rattle.std.proofs.lemmas.Option.{get_or_from_slice_get, slice_get_within}
use Rattle.std.proofs.lemmas.Slice.Eq.{bytes_eq-Decides}
use Rattle.arrayvec.specs.ArrayVec.{ArrayVec}
use Rattle.aoe_history.specs.Setup.{host_called, is_called, HostSetup, Setup}

-- a host that a name names is called so
pub is-called : (s : Setup) (name : ArrayVec ℕ) (host : HostSetup) → host_called s name ≡ Some host → is_called host name ≡ true
is-called s name host e =
    let called = λ (x : HostSetup). is_called x name in
    let at = sym (find_at called s.hosts) ∙ e in
    rw (get_or_from_slice_get s.hosts _ host host at) at (passes_at_first called s.hosts host (slice_get_within s.hosts _ host at))

-- and each name that it is called names it
pub named : (s : Setup) (name : ArrayVec ℕ) (host : HostSetup) → host_called s name ≡ Some host → (other : ArrayVec ℕ) → is_called host other ≡ true
    → host_called s other ≡ Some host
named s name host e other mine =
    let a = (bytes_eq-Decides host.name other.items).0 mine in
    let b = (bytes_eq-Decides host.name name.items).0 (is-called s name host e) in
    rw (sym a ∙ b) e
