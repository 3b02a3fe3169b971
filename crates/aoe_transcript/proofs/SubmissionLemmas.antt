-- The event line that asks for what was submitted.
use Rattle.std.proofs.Common.{◌≡◌, ◌*◌, ◌/◌, ℕ, zero, suc, List, length, replicate, Some, refl, ap, arith}
use Rattle.std.specs.Prelude.{slice_index}
use Rattle.std.proofs.lemmas.List.{length-replicate}
use Rattle.arrayvec.specs.ArrayVec.{ArrayVec}
use Rattle.aoe_base.specs.declared.address.TargetId.{TargetId}
use Rattle.aoe_initiator.specs.declared.op.Op.{Op}
use Rattle.aoe_initiator.specs.declared.op.Op.TheVariants.{Write as WriteOp}
use Rattle.aoe_script.specs.declared.event.Event.{Event}
use Rattle.aoe_script.specs.declared.event.Event.TheVariants.{Write}
use Rattle.aoe_history.specs.Asks.{op_of}
use Rattle.aoe_transcript.specs.Print.{asking, IsAsked}

first_same : (n x : ℕ) → replicate n (slice_index (replicate n x) 0) ≡ replicate n x
first_same zero x = refl
first_same (suc n) x = refl

-- bytes that are all the same are as many as the first
filled : (n x : ℕ) (bytes : List ℕ) → replicate (512 * n) x ≡ bytes → replicate (512 * (length bytes / 512)) (slice_index bytes 0) ≡ bytes
filled n x bytes is =
    let long = rw length-replicate at (ap length is) in
    let whole : 512 * (length bytes / 512) ≡ 512 * n = omega arith in
    rw (whole, ← is) (first_same (512 * n) x)

written : (at : ℕ) (bytes : List ℕ) (event : Event) → op_of event ≡ Some (WriteOp at bytes)
    → replicate (512 * (length bytes / 512)) (slice_index bytes 0) ≡ bytes
written at bytes (Write host dev from count fill) e = filled count fill bytes cc
written at bytes _ e = absurd cc

pub line_asks : (host : ArrayVec ℕ) (dev : TargetId) (op : Op) → IsAsked op → op_of (asking host dev op) ≡ Some op
line_asks host dev (WriteOp at bytes) h = rw (written at bytes h.event h.same)
line_asks host dev _ h = refl
