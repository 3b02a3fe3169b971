use Rattle.std.proofs.Common.{List, nat_lt, take}
use Rattle.aoe_cache.specs.declared.place.HeldSector.{HeldSector}
use Rattle.aoe_cache.specs.Held.{placed}
use Rattle.aoe_cache.proofs.Down.{buffer_after, buffer_sorted, first_placed, sorted_down}
use Rattle.aoe_cache.proofs.write_behind.write_down.Goals as goal

pub write_runs-left-requires-clause-buffer : goal.write_runs-left-requires-clause-buffer
write_runs-left-requires-clause-buffer g c = buffer_sorted c.requires.buffer c.sort.ensures.has c.sort.ensures.placed

pub keep_first-requires-clause-order : goal.keep_first-requires-clause-order
keep_first-requires-clause-order g c =
    let n = c.write_runs-left.result in
    let left : List HeldSector = take n (placed c.write_runs-left.new.buffer) in
    let stays = sorted_down c.sort.new.self (nat_lt 0 n) left
    (g.D.Disk.state c.write_runs-left.new.disk) c.requires.disk c.requires.buffer c.sort.ensures.placed c.write_runs-left.ensures.down in
    rw (first_placed c.write_runs-left.new.buffer n c.write_runs-left.ensures.left) at stays.left.order

pub returns-else-left-eq0-clause-buffer : goal.returns-else-left-eq0-clause-buffer
returns-else-left-eq0-clause-buffer g c =
    let n = c.write_runs-left.result in
    let left : List HeldSector = take n (placed c.write_runs-left.new.buffer) in
    let stays = sorted_down c.sort.new.self (nat_lt 0 n) left
    (g.D.Disk.state c.write_runs-left.new.disk) c.requires.disk c.requires.buffer c.sort.ensures.placed c.write_runs-left.ensures.down in
    buffer_after c.keep_first.new.self c.keep_first.ensures.indexed
    (rw (first_placed c.write_runs-left.new.buffer n c.write_runs-left.ensures.left, ← c.keep_first.ensures.held) at stays)
