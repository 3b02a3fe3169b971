use Rattle.std.proofs.Common.{◌≤◌, ◌/◌, ◌^◌, length, ◌∙◌}
use Rattle.aoe_cache.specs.Held.{held_of, with_written}
use Rattle.aoe_cache.proofs.Down.{buffer_more, put_buffer, put_room}
use Rattle.aoe_cache.proofs.write_behind.WriteBehind.write.Goals as goal

pub fits-requires-clause-buffer : goal.fits-requires-clause-buffer
fits-requires-clause-buffer g c =
    buffer_more (g.D.Disk.state c.args.self.now.disk).sectors (2 ^ 40) c.args.self.now.buffer c.requires.behind.disk.bound c.requires.behind.buffer

pub put-requires-clause-room : goal.put-requires-clause-room
put-requires-clause-room g c =
    let fits : length (with_written c.args.at (length c.args.piece.now / 512) c.args.piece.now (held_of c.args.self.now.buffer)) ≤ c.args.self.now.room =
    (c.fits.ensures c.args.piece.now).0 c.if-not-fits.false in
    put_room c.args.piece.now c.requires.range c.requires.behind.buffer c.args.self.now.room c.requires.behind.places fits

pub returns-clause-behind : goal.returns-clause-behind
returns-clause-behind g c = record {
  disk = c.requires.behind.disk;
  buffer = put_buffer c.args.piece.now c.requires.range c.requires.behind.buffer c.put.new.self c.put.ensures.indexed c.put.ensures.held;
  places = c.put.ensures.places ∙ c.requires.behind.places;
  scratch = c.requires.behind.scratch;
}
