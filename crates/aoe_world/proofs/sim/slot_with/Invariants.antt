use Rattle.std.proofs.Common.{◌<◌, ◌≢◌, ℕ, IfSome, slice_get}
use Rattle.aoe_world.proofs.sim.slot_with.Given as goal

abbrev pub invariant-slots : goal.invariant-slots
invariant-slots l = (i : ℕ) → i < l.slot → IfSome (slice_get l.shelf.shelf.targets i) (λ t. t.station.id.minor ≢ l.minor)
