-- The sectors of a disk that a keep leaves alone.
use Rattle.std.proofs.Common.{◌≤◌, ◌+◌, ◌*◌, ◌∙◌, ℕ, Bool, Result, List, arith, inl, inr}
use Rattle.aoe_disk.specs.State.{Contents, DiskState, BothTell}
use Rattle.aoe_disk.specs.Calls.{Syncs}
use Rattle.aoe_disk.specs.Sectors.{IsOutside, Touches}
use Rattle.aoe_keep.specs.Stages.{WritesGate, WritesBody}
use Rattle.aoe_keep.specs.Keep.{KeepsOthers}
use Rattle.aoe_keep.proofs.Told.{both_map, both_then}
use Rattle.aoe_keep.proofs.Steps.{calm_touches}
use Rattle.aoe_keep.proofs.Calls.{syncs_calm}

further : (lo n s : ℕ) → lo + n ≤ 16 → IsOutside 0 16 s → IsOutside lo n s
further lo n s fits (inl below) = absurd (omega (arith, below))
further lo n s fits (inr above) = inr (omega (arith, above, fits))

touch_own : (lo n : ℕ) (a b : Contents) → lo + n ≤ 16 → Touches lo n a b → Touches 0 16 a b
touch_own lo n a b fits touch = record {
  size = touch.size;
  marks = touch.marks;
  same = λ s out. touch.same s (further lo n s fits out);
  kept = λ s out e. touch.kept s (further lo n s fits out) e;
}

own_then : (a b c : Contents) → Touches 0 16 a b → Touches 0 16 b c → Touches 0 16 a c
own_then a b c one two = record {
  size = two.size ∙ one.size;
  marks = two.marks ∙ one.marks;
  same = λ s out. two.same s out ∙ one.same s out;
  kept = λ s out e. two.kept s out (one.kept s out e);
}

pub gate_others : {T E : Type 0} (sectors k : ℕ) (opens : Bool) (result : Result T E) (old new : DiskState) → k ≤ 1
    → BothTell (WritesGate sectors k opens result) old.contents new.contents → KeepsOthers old new
gate_others sectors k opens result old new small told =
    record {
      contents = both_map (WritesGate sectors k opens result) (Touches 0 16) old.contents new.contents
          (λ x y w. touch_own (8 * k) 1 x y (omega (arith, small)) w.touches) told;
    }

pub body_others : {T E : Type 0} (k : ℕ) (piece : List ℕ) (result : Result T E) (old new : DiskState) → k ≤ 1
    → BothTell (WritesBody k piece result) old.contents new.contents → KeepsOthers old new
body_others k piece result old new small told =
    record {
      contents = both_map (WritesBody k piece result) (Touches 0 16) old.contents new.contents
          (λ x y w. touch_own (8 * k + 1) 7 x y (omega (arith, small)) w.touches) told;
    }

pub sync_others : {T E : Type 0} (result : Result T E) (old new : DiskState) → BothTell (Syncs result) old.contents new.contents → KeepsOthers old new
sync_others result old new told =
    record { contents = both_map (Syncs result) (Touches 0 16) old.contents new.contents (λ x y w. calm_touches 0 16 x y (syncs_calm result x y w)) told }

pub others_then : (a b c : DiskState) → KeepsOthers a b → KeepsOthers b c → KeepsOthers a c
others_then a b c one two = record {
  contents =
      both_then (Touches 0 16) (Touches 0 16) (Touches 0 16) a.contents b.contents c.contents own_then one.contents two.contents;
}
