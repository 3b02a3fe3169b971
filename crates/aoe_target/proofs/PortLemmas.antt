-- The port of a shelf that has one.
use Rattle.std.proofs.Common.{◌≡◌, Bool, true, false, List, [], ◌∷◌, length, get_or, refl, sym, subst, arith}
use Rattle.std.specs.Prelude.{if◌then◌else◌, ◌||◌}
use Rattle.aoe_base.specs.declared.address.Mac.{Mac}
use Rattle.aoe_base.specs.Addresses.{holds, same_address}
use Rattle.aoe_base.proofs.AddressLemmas.{same-address}
use Rattle.aoe_frame.specs.declared.header.Header.{Header}
use Rattle.aoe_target.specs.declared.station.Station.{Station}
use Rattle.aoe_target.specs.Reply.{reply_port}

chosen : (port dst : Mac) (b : Bool) → same_address port dst ≡ b → (if b || false then dst else port) ≡ port
chosen port dst true same = sym (same-address port dst same)
chosen port dst false same = refl

of_one : (ports : List Mac) (dst none : Mac) → length ports ≡ 1 → (if holds ports dst then dst else get_or ports 0 dst) ≡ get_or ports 0 none
of_one [] dst none one = absurd (omega arith)
of_one (port ∷ []) dst none one = chosen port dst (same_address port dst) refl
of_one (port ∷ other ∷ rest) dst none one = absurd (omega arith)

-- each of its replies comes from it, since a request that went to a port went to this one
pub from_the_only_port : (station : Station) (ports : List Mac) (none : Mac) (h : Header) → ports ≡ station.ports.items → length ports ≡ 1
    → reply_port station h ≡ get_or ports 0 none
from_the_only_port station ports none h same one =
    let P : List Mac → Type 0 = λ l. (if holds l h.dst then h.dst else get_or l 0 h.dst) ≡ get_or ports 0 none in
    subst P same (of_one ports h.dst none one)
