-- Writes of gates and of bodies.
use Rattle.std.proofs.Common.{◌≡◌, ◌≤◌, ◌+◌, ◌*◌, ◌/◌, ◌==◌, ℕ, Bool, true, Result, Ok, Err, List, length, get_or, refl, arith}
use Rattle.std.proofs.lemmas.List.{take_at}
use Rattle.aoe_disk.specs.State.{Contents, DiskState, HasShape, BothTell, is_loose, with_marks}
use Rattle.aoe_disk.specs.Calls.{Writes, WritesTo, IsRange}
use Rattle.aoe_disk.proofs.Pieces.{drop_start-with_piece, is_loose-with_marks_inside}
use Rattle.aoe_disk.proofs.Touching.{puts_touch, spoils_touch, sector-with_sector}
use Rattle.aoe_keep.specs.Stages.{WritesGate, WritesBody}
use Rattle.aoe_keep.proofs.Told.{told_both}

pub gate_range : (k n sectors : ℕ) → n ≡ 512 → k ≤ 1 → 16 ≤ sectors → IsRange (8 * k) n sectors
gate_range k n sectors e small room = rw e (record { some = omega arith; whole = refl; within = omega arith })

pub body_range : (k n sectors : ℕ) → n ≡ 3584 → k ≤ 1 → 16 ≤ sectors → IsRange (8 * k + 1) n sectors
body_range k n sectors e small room = rw e (record { some = omega arith; whole = refl; within = omega arith })

module _ (sectors k : ℕ) (room : 16 ≤ sectors) (small : k ≤ 1) (piece : List ℕ) (c d : Contents) (shape : HasShape sectors c) where
  is_set : {n : ℕ} → n ≡ 1 → d.loose ≡ with_marks c.loose (8 * k) n → is_loose d.loose (8 * k) ≡ true
  is_set {n} one loose = rw loose (is_loose-with_marks_inside c.loose (8 * k) n (omega (arith, shape.marks, one)) (8 * k) (omega arith) (omega (arith, one)))

  gate_written : {T E : Type 0} (opens : Bool) (result : Result T E) → length piece ≡ 512 → (get_or piece 0 0 == 167) ≡ opens → Writes (8 * k) piece result c d
      → WritesGate sectors k opens result c d
  gate_written opens (Ok r) size first puts =
      let range = gate_range k (length piece) sectors size small room in
      let one : length piece / 512 ≡ 1 = omega (arith, size) in
      let here = sector-with_sector c.bytes piece (8 * k) size (omega (arith, shape.bytes)) in
      record {
        shape = shape;
        touches = rw one at (puts_touch (8 * k) piece c d sectors shape range puts);
        loose = is_set one puts.loose;
        gate = rw (puts.bytes, here) first;
      }
  gate_written opens (Err r) size first spoils =
      let range = gate_range k (length piece) sectors size small room in
      let one : length piece / 512 ≡ 1 = omega (arith, size) in
      record {
        shape = shape;
        touches = rw one at (spoils_touch (8 * k) (length piece) c d sectors shape range spoils);
        loose = is_set one spoils.loose;
        gate = tt;
      }

  body_written : {T E : Type 0} (result : Result T E) → length piece ≡ 3584 → Writes (8 * k + 1) piece result c d → WritesBody k piece result c d
  body_written (Ok r) size puts =
      let range = body_range k (length piece) sectors size small room in
      let seven : length piece / 512 ≡ 7 = omega (arith, size) in
      let there = drop_start-with_piece c.bytes (512 * (8 * k + 1)) piece (omega (arith, shape.bytes, size)) in
      record {
        touches = rw seven at (puts_touch (8 * k + 1) piece c d sectors shape range puts);
        body = rw (puts.bytes, there) (take_at piece _ 3584 size);
      }
  body_written (Err r) size spoils =
      let range = body_range k (length piece) sectors size small room in
      let seven : length piece / 512 ≡ 7 = omega (arith, size) in
      record { touches = rw seven at (spoils_touch (8 * k + 1) (length piece) c d sectors shape range spoils); body = tt }

-- the same for a sector that is numbered by j, which is k
module _ {T E : Type 0} (j k : ℕ) (is : j ≡ k) (small : k ≤ 1) (piece : List ℕ) (result : Result T E) (old new : DiskState) (room : 16 ≤ old.sectors) where
  pub writes_gate : (opens : Bool) → length piece ≡ 512 → (get_or piece 0 0 == 167) ≡ opens → WritesTo (8 * j) piece result old new
      → BothTell (WritesGate old.sectors k opens result) old.contents new.contents
  writes_gate opens size first w =
      let v : WritesTo (8 * k) piece result old new = rw is at w in
      told_both (HasShape old.sectors) (Writes (8 * k) piece result) (WritesGate old.sectors k opens result) old.contents new.contents
      (λ x y shape h. gate_written old.sectors k room small piece x y shape opens result size first h) v.call.before.shape v.contents

  pub writes_body : length piece ≡ 3584 → WritesTo (8 * j + 1) piece result old new → BothTell (WritesBody k piece result) old.contents new.contents
  writes_body size w =
      let v : WritesTo (8 * k + 1) piece result old new = rw is at w in
      told_both (HasShape old.sectors) (Writes (8 * k + 1) piece result) (WritesBody k piece result) old.contents new.contents
      (λ x y shape h. body_written old.sectors k room small piece x y shape result size h) v.call.before.shape v.contents
