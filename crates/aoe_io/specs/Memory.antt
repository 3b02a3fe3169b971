-- Sources and sinks in memory.
use Rattle.std.specs.Prelude.{ℕ, ◌+◌, ◌-◌, ◌^◌, ◌==◌, ◌||◌, List, ◌++◌, length, drop, min, nat_lt, Result, Ok, Err, if◌then◌else◌}
use Rattle.aoe_base.specs.declared.failure.Failed.{Failed}

-- what is left, the faults so far, and which coming call fails, 0 where none does
pub record Reading : Type 0 where
  pub left : List ℕ
  pub faults : ℕ
  pub due : ℕ

-- what was written, the room for all of it, the faults so far, and which coming call fails, 0 where none does
pub record Writing : Type 0 where
  pub held : List ℕ
  pub room : ℕ
  pub faults : ℕ
  pub due : ℕ

-- one fault more, up to the greatest u64
abbrev pub counted : ℕ → ℕ
counted faults = min (faults + 1) (2 ^ 64 - 1)

-- what a read into room for so many bytes answers and leaves
abbrev pub read_of : Reading → ℕ → Result ℕ Failed × Reading
read_of r room =
    let n = min (length r.left) room in
    if r.due == 1
    then (Err record {}, record r { faults = counted r.faults; due = r.due - 1 })
    else (Ok n, record r { left = drop n r.left; due = r.due - 1 })

-- what a write of a piece answers and leaves
abbrev pub write_of : Writing → List ℕ → Result ℕ Failed × Writing
write_of w piece =
    if w.due == 1 || nat_lt w.room (length w.held + length piece)
    then (Err record {}, record w { faults = counted w.faults; due = w.due - 1 })
    else (Ok (length piece), record w { held = w.held ++ piece; due = w.due - 1 })
