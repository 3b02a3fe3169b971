use Rattle.std.proofs.Common.{◌^◌, Ok, Err, length}
use Rattle.aoe_cache.proofs.Down.{buffer_more, held_in}
use Rattle.aoe_cache.proofs.Seen.{reads_seen}
use Rattle.aoe_cache.proofs.write_behind.WriteBehind.read.Goals as goal

pub returns-in-Err-clause-seen : goal.returns-in-Err-clause-seen
returns-in-Err-clause-seen g c =
    let reads = rw c.in-Err.is at c.read.ensures in
    reads_seen c.args.at (length c.args.out.now) (Err c.in-Err.field-0) _ c.read.new.out c.read.new.out _ _ c.requires.range
    (held_in c.requires.behind.buffer) tt reads

pub lay_over-requires-clause-buffer : goal.lay_over-requires-clause-buffer
lay_over-requires-clause-buffer g c =
    buffer_more (g.D.Disk.state c.args.self.now.disk).sectors (2 ^ 40) c.args.self.now.buffer c.requires.behind.disk.bound c.requires.behind.buffer

pub returns-clause-seen : goal.returns-clause-seen
returns-clause-seen g c =
    let reads = rw c.in_default.is at c.read.ensures in
    let lays = rw c.read.auto.out at c.lay_over.ensures in
    reads_seen c.args.at (length c.args.out.now) (Ok c.in_default.field-0) _ c.read.new.out c.lay_over.new.out _ _ c.requires.range
    (held_in c.requires.behind.buffer) lays reads
