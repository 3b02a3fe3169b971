use Rattle.std.proofs.Common.{◌+◌, ◌/◌, ℕ, List, length, arith, ap, ◌∙◌}
use Rattle.aoe_cache.specs.declared.place.HeldSector.{HeldSector}
use Rattle.aoe_cache.specs.Held.{held_of}
use Rattle.aoe_cache.proofs.Steps.{length_written_more, written_next}
use Rattle.aoe_cache.proofs.Table.{held_order}
use Rattle.aoe_cache.proofs.buffer.Buffer.put.Goals as goal

pub put_one-requires-clause-room : goal.put_one-requires-clause-room
put_one-requires-clause-room c =
    let hs : List HeldSector = held_of c.args.self.now in
    let n : ℕ = length c.args.piece.now / 512 in
    let order = held_order c.args.self.now c.requires.indexed in
    let next = written_next c.args.at c.args.piece.now hs c.sectors.i (held_of c.sectors.self) order
    (omega (arith, c.sectors-test.true, c.requires.whole)) c.sectors.invariant.held in
    omega (
      arith,
      ap length next,
      length_written_more c.args.at c.args.piece.now hs (c.sectors.i + 1) n order (omega (arith, c.sectors-test.true)),
      c.requires.room,
      c.sectors.invariant.places,
    )

pub sectors-preserved : goal.sectors-preserved
sectors-preserved c =
    let order = held_order c.args.self.now c.requires.indexed in
    record {
      indexed = c.put_one.ensures.indexed;
      held = c.put_one.ensures.held ∙ written_next c.args.at c.args.piece.now (held_of c.args.self.now) c.sectors.i (held_of c.sectors.self) order
          (omega (arith, c.sectors-test.true, c.requires.whole)) c.sectors.invariant.held;
      places = c.put_one.ensures.places ∙ c.sectors.invariant.places;
    }
