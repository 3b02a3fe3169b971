use Rattle.std.proofs.Common.{◌≡◌, ◌/◌, ℕ, List, [], length, min, refl, sym, arith, ap, inr, ◌∙◌}
use Rattle.aoe_disk.specs.Calls.{IsRange}
use Rattle.aoe_cache.specs.declared.place.HeldSector.{HeldSector}
use Rattle.aoe_cache.specs.Held.{held_of, with_written}
use Rattle.aoe_cache.proofs.Ascending.{length-with_written}
use Rattle.aoe_cache.proofs.Down.{empties, put_buffer, scratch_kept}
use Rattle.aoe_cache.proofs.write_behind.WriteBehind.write_beyond.Goals as goal

pub put-requires-clause-room : goal.put-requires-clause-room
put-requires-clause-room g c =
    let n : ℕ = length c.args.piece.now / 512 in
    let empty : held_of c.write_down.new.buffer ≡ [] = (empties c.in_ok-write_down.ensures.down).empty in
    let size : length (with_written c.args.at n c.args.piece.now (held_of c.write_down.new.buffer)) ≡ n =
    ap (λ (l : List HeldSector). length (with_written c.args.at n c.args.piece.now l)) empty ∙ length-with_written c.args.at n c.args.piece.now []
    ∙ omega arith in
    omega (arith, size, c.write_down.ensures.places, c.requires.behind.places, c.requires.range.within, c.if-piece-self.false)

pub returns-clause-behind : goal.returns-clause-behind
returns-clause-behind g c =
    let range : IsRange c.args.at (length c.args.piece.now) (g.D.Disk.state c.write_down.new.disk).sectors = rw c.write_down.ensures.sectors c.requires.range in
    record {
      disk = c.write_down.ensures.disk;
      buffer = put_buffer c.args.piece.now range c.write_down.ensures.buffer c.put.new.self c.put.ensures.indexed c.put.ensures.held;
      places = c.put.ensures.places ∙ c.write_down.ensures.places ∙ c.requires.behind.places ∙ ap (min c.args.self.now.room) (sym c.write_down.ensures.sectors);
      scratch = scratch_kept c.args.self.now.scratch c.write_down.new.scratch c.requires.behind.scratch (c.write_down.auto.scratch ∙ c.deref_mut.ensures.len);
    }

pub returns-then-piece-self-clause-writes : goal.returns-then-piece-self-clause-writes
returns-then-piece-self-clause-writes g c =
    let down = empties c.in_ok-write_down.ensures.down in
    inr (record {
      between = g.D.Disk.state c.write_down.new.disk;
      down = rw down.empty at down;
      puts = record {
        buffer = λ few. absurd (omega (arith, few, c.if-piece-self.true));
        disk = λ more. (down.empty, c.write.ensures);
      };
    })

pub returns-clause-writes : goal.returns-clause-writes
returns-clause-writes g c =
    let n : ℕ = length c.args.piece.now / 512 in
    let down = empties c.in_ok-write_down.ensures.down in
    inr (record {
      between = g.D.Disk.state c.write_down.new.disk;
      down = rw down.empty at down;
      puts = record {
        buffer = λ few. (refl, refl, c.put.ensures.held ∙ ap (λ (l : List HeldSector). with_written c.args.at n c.args.piece.now l) down.empty);
        disk = λ more. absurd (omega (arith, more, c.if-piece-self.false));
      };
    })
