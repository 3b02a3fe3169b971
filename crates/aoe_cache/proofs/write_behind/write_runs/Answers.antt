use Rattle.std.proofs.Common.{◌≤◌, ◌+◌, ◌^◌, ℕ, List, true, false, length, sym, arith, ap, ◌∙◌, length-drop}
use Rattle.aoe_cache.specs.declared.place.HeldSector.{HeldSector}
use Rattle.aoe_cache.specs.Held.{placed}
use Rattle.aoe_cache.proofs.Down.{fails_one, in_order_more, rest_in_order, rest_more, room_kept, run_made, writes_one}
use Rattle.aoe_cache.proofs.write_behind.write_runs.Goals as goal
use Rattle.aoe_cache.proofs.write_behind.write_runs.Goals.{then-is_err, else-is_err}

pub run_from-count-requires-clause-order : goal.run_from-count-requires-clause-order
run_from-count-requires-clause-order g c =
    let inv = c.runs.invariant in
    let has = room_kept c.requires.buffer.has inv.numbers inv.places in
    in_order_more (g.D.Disk.state c.args.disk.now).sectors (2 ^ 40) c.runs.done c.runs.buffer c.requires.disk.bound
    (rest_in_order c.requires.buffer has inv.rest)

pub write_run-requires-clause-buffer : goal.write_run-requires-clause-buffer
write_run-requires-clause-buffer g c =
    let inv = c.runs.invariant in
    rw inv.sectors (rest_in_order c.requires.buffer (room_kept c.requires.buffer.has inv.numbers inv.places) inv.rest)

pub runs-preserved : goal.runs-preserved
runs-preserved g c =
    let inv = c.runs.invariant in
    let held : List HeldSector = placed c.args.buffer.now in
    let n : ℕ = c.run_from-count.result in
    let joined = c.run_from-count.ensures in
    let there : c.runs.done + n ≤ length held = omega (arith, joined.there, length-drop c.runs.done held, inv.within, ap length inv.rest) in
    let sectors = c.write_run.ensures.call.sectors ∙ inv.sectors in
    elim c.if-is_err.branch [
      | then-is_err w ↦
          let moved = w.move_down.ensures in
          let run = run_made c.write_run.result true inv.rest (sym c.is_err.ensures.value ∙ w.if-is_err.true) joined c.write_run.ensures in
          record {
            numbers = rw w.buffer-is (moved.numbers ∙ inv.numbers);
            places = rw w.buffer-is (moved.places ∙ inv.places);
            within = there;
            down = omega (arith, w.left-is, inv.down);
            rest = rw w.buffer-is (moved.rest ∙ rest_more c.runs.done n (placed c.runs.buffer) held inv.rest);
            disk = c.write_run.ensures.call.after;
            sectors = sectors;
            writes = rw (w.buffer-is, w.left-is) (fails_one inv.writes (placed w.move_down.new.self) joined.some (rw inv.rest at moved.moved) run);
          }
      | else-is_err w ↦
          let run = run_made c.write_run.result false inv.rest (sym c.is_err.ensures.value ∙ w.if-is_err.false) joined c.write_run.ensures in
          record {
            numbers = rw w.buffer-is inv.numbers;
            places = rw w.buffer-is inv.places;
            within = there;
            down = omega (arith, w.left-is, inv.down);
            rest = rw w.buffer-is (rest_more c.runs.done n (placed c.runs.buffer) held inv.rest);
            disk = c.write_run.ensures.call.after;
            sectors = sectors;
            writes = rw (w.buffer-is, w.left-is) (writes_one inv.writes run);
          }
    ]
