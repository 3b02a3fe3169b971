-- Names of targets that are the same.
use Rattle.std.proofs.Common.{◌≡◌, true, nat_eq, refl}
use Rattle.std.proofs.lemmas.Bool.{and_from, and_parts, eq-eqb, eqb-true}
use Rattle.aoe_base.specs.declared.address.TargetId.{TargetId}
use Rattle.aoe_initiator.specs.HostLaw.{same_id}

pub same-id : (a b : TargetId) → same_id a b ≡ true → a ≡ b
same-id a b same =
    let parts = and_parts (nat_eq a.major b.major) (nat_eq a.minor b.minor) same in
    rw (eqb-true a.major b.major parts.0, eqb-true a.minor b.minor parts.1)

pub same_id-refl : (id : TargetId) → same_id id id ≡ true
same_id-refl id = and_from _ _ (eq-eqb id.major id.major refl) (eq-eqb id.minor id.minor refl)
