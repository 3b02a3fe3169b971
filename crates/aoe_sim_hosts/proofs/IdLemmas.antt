-- The names of a host's devices.
use Rattle.std.proofs.Common.{ℕ, ◌≡◌, Bool, true, List, [], ◌∷◌, length, map, Option, Some, None, is_some, refl, sym, ap, arith}
use Rattle.std.specs.Prelude.{position, unwrap_or}
use Rattle.std.specs.List.{position_or_len}
use Rattle.std.proofs.lemmas.List.{length-map}
use Rattle.aoe_base.specs.declared.address.TargetId.{TargetId}
use Rattle.aoe_sim_hosts.specs.Ids.{AreIds}
use Rattle.aoe_initiator.specs.declared.device.Attached.{Attached}
use Rattle.aoe_initiator.specs.declared.device.Device.{Device}
use Rattle.aoe_initiator.specs.HostLaw.{same_id}
use Rattle.aoe_history.proofs.LogicLemmas.{map-map}

place-map : {X Y : Type 0} (f : X → Y) (p : Y → Bool) (xs : List X) → position_or_len p (map f xs) ≡ position_or_len (λ x. p (f x)) xs
place-map f p [] = refl
place-map f p (x ∷ xs) = rw (place-map f p xs)

pub position-map : {X Y : Type 0} (f : X → Y) (p : Y → Bool) (xs : List X) → position p (map f xs) ≡ position (λ x. p (f x)) xs
position-map f p xs = rw (place-map f p xs, length-map xs f)

-- a device has its place among the names
pub place-kept : (ids : List TargetId) (devices : List Device) (dev : TargetId) → AreIds ids devices
    → position (λ id. same_id id dev) ids ≡ position (λ (d : Device). same_id d.about.id dev) devices
place-kept ids devices dev x = rw x.are (position-map (λ (d : Device). d.about.id) (λ id. same_id id dev) devices)

-- and among the devices of the setup
pub place-about : (devices : List Device) (abouts : List Attached) (dev : TargetId) → map (λ (d : Device). d.about) devices ≡ abouts
    → position (λ (d : Attached). same_id d.id dev) abouts ≡ position (λ (d : Device). same_id d.about.id dev) devices
place-about devices abouts dev e = rw (← e) (position-map (λ (d : Device). d.about) (λ (d : Attached). same_id d.id dev) devices)

pub some-given : (o : Option ℕ) → is_some o ≡ true → o ≡ Some (unwrap_or o 0)
some-given None e = absurd (cc)
some-given (Some n) e = refl

ids-about : (devices : List Device) → map (λ (d : Device). d.about.id) devices ≡ map (λ (a : Attached). a.id) (map (λ (d : Device). d.about) devices)
ids-about devices = sym (map-map (λ (a : Attached). a.id) (λ (d : Device). d.about) devices)

-- a step keeps the names
pub ids-same : (ids : List TargetId) (a b : List Device) → map (λ (d : Device). d.about) b ≡ map (λ (d : Device). d.about) a → AreIds ids a → AreIds ids b
ids-same ids a b e x = record {
  are = rw (ids-about b, e, ← ids-about a) x.are;
  few = omega (arith, x.few, simp length-map at (ap length e));
}
