use Rattle.std.proofs.Common.{◌≡◌, ◌*◌, length, take, arith}
use Rattle.std.proofs.lemmas.List.{length-take-le}
use Rattle.aoe_cache.specs.Held.{placed}
use Rattle.aoe_cache.proofs.Runs.{run_within}
use Rattle.aoe_cache.proofs.write_behind.write_run.Goals as goal

pub write-requires : goal.write-requires
write-requires g c =
    let fits =
    run_within c.args.count c.args.from (g.D.Disk.state c.args.disk.now).sectors (placed c.args.buffer.now) c.requires.joined c.requires.buffer.below in
    record {
      some = omega (arith, c.bytes_at.ensures.whole);
      whole = omega (arith, c.bytes_at.ensures.whole);
      within = omega (arith, c.bytes_at.ensures.whole, fits, c.first_from-at.ensures, c.requires.joined.some);
    }

pub write-requires-2 : goal.write-requires-2
write-requires-2 g c =
    let fits =
    run_within c.args.count c.args.from (g.D.Disk.state c.args.disk.now).sectors (placed c.args.buffer.now) c.requires.joined c.requires.buffer.below in
    let len : length (take (512 * c.args.count) c.gather.new.out) ≡ 512 * c.args.count =
    length-take-le (512 * c.args.count) c.gather.new.out (omega (arith, c.gather.auto.out, c.requires.scratch, c.requires.joined.most)) in
    record {
      some = omega (arith, len, c.requires.joined.some);
      whole = omega (arith, len);
      within = omega (arith, len, fits, c.first_from-at.ensures);
    }
