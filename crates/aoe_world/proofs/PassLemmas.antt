-- Frames that are treated one after another, from the cursor on.
use Rattle.std.proofs.Common.{ℕ, suc, ◌≡◌, ◌≤◌, ◌<◌, List, length, Ok, arith, ◌⊎◌}
use Rattle.aoe_history.specs.declared.entry.Entry.{Entry}
use Rattle.aoe_history.specs.Frames.{frames}
use Rattle.aoe_history.specs.Groups.{Act, Follows}
use Rattle.aoe_history.specs.Setup.{Setup}
use Rattle.aoe_net.specs.declared.refusal.NetRefusal.{NetRefusal}
use Rattle.aoe_world.specs.declared.sim.Sim.{Sim}
use Rattle.aoe_world.specs.Schedule.{FollowsSome, Moves, MovesSome}
use Rattle.aoe_world.specs.Sim.{IsLeft, IsReady, Moved}
use Rattle.aoe_world.proofs.ActLemmas.{left-more}
use Rattle.aoe_world.proofs.ScheduleKeeps.{follows-grow}

-- one more frame behind those before
pub record Passing (s : Setup) (majors : List ℕ) (acts : List Entry → ℕ → List Act) (count cursor behind : ℕ) (old now : Sim) : Type 0 where
  pub moves : Moves s acts cursor old.run.entries count behind now.run.entries
  pub ready : IsReady s majors now
  pub from_one : 1 ≤ behind
  pub within : behind ≤ suc (length (frames now.run.entries))

pub passing-none : {s : Setup} {majors : List ℕ} {acts : List Entry → ℕ → List Act} {cursor : ℕ} {old : Sim} → IsReady s majors old → 1 ≤ cursor
    → cursor ≤ suc (length (frames old.run.entries)) → Passing s majors acts 0 cursor cursor old old
passing-none ready first within = record { moves = Moves.moves_none; ready = ready; from_one = first; within = within }

module _ {s : Setup} {majors : List ℕ} {acts : List Entry → ℕ → List Act} {count cursor behind : ℕ} {old now : Sim}
    (p : Passing s majors acts count cursor behind old now) where
  pub passing-next : {later : Sim} → behind ≤ length (frames now.run.entries)
      → Follows s (acts now.run.entries behind) now.run.entries later.run.entries × IsReady s majors later
      → Passing s majors acts (suc count) cursor (suc behind) old later
  passing-next {later} le (follows, ready) = record {
    moves = Moves.moves_one p.moves le follows;
    ready = ready;
    from_one = omega arith;
    within = omega (arith, le, follows-grow s (acts now.run.entries behind) now.run.entries later.run.entries follows);
  }

  -- one came in part
  pub passed-begun : {refusal : NetRefusal} {m : List Entry} (n : ℕ) → count < n → behind ≤ length (frames now.run.entries)
      → IsLeft s (FollowsSome s (acts now.run.entries behind) now.run.entries) refusal m → IsLeft s (MovesSome s acts n cursor old.run.entries) refusal m
  passed-begun n lt le left =
      left-more (λ m some. record { count = count; before = lt; behind = behind; mid = now.run.entries; moves = p.moves; there = le; follows = some }) left

  -- so many were treated, or no frame is left
  pub passed-by : (n : ℕ) → (count ≡ n) ⊎ ((count < n) × (length (frames now.run.entries) < behind))
      → Moved {T = Unit {0}} (Ok tt) s majors acts n cursor behind old now
  passed-by n ends = (record { count = count; moves = p.moves; ends = ends }, p.ready, p.from_one, p.within)
