use Rattle.std.proofs.Common.{◌≡◌, ◌<◌, ◌+◌, List, length, arith, ap, ◌∙◌}
use Rattle.std.proofs.lemmas.List.Edits.{length-swap}
use Rattle.aoe_cache.specs.declared.place.HeldSector.{HeldSector}
use Rattle.aoe_cache.proofs.Places.{moved_front, moved_rest, used_front, used_rest}
use Rattle.aoe_cache.proofs.buffer.Buffer.move_down.Goals as goal

pub sectors-preserved : goal.sectors-preserved
sectors-preserved c =
    let old : List HeldSector = c.args.self.now.places.items in
    let now : List HeldSector = c.sectors.self.places.items in
    let there : c.args.from + c.sectors.i < length old = omega (arith, c.requires.used, c.requires.some, c.sectors-test.true) in
    let is = c.swap.ensures.items in
    record {
      numbers = c.sectors.invariant.numbers;
      places = ap length is ∙ length-swap now (c.args.to + c.sectors.i) (c.args.from + c.sectors.i) ∙ c.sectors.invariant.places;
      moved = rw is (moved_front old now c.args.from c.args.to c.sectors.i c.requires.down there c.sectors.invariant.places c.sectors.invariant.rest
          c.sectors.invariant.moved);
      rest = rw is (moved_rest old now c.args.from c.args.to c.sectors.i c.requires.down there c.sectors.invariant.places c.sectors.invariant.rest);
    }

pub returns-clause-moved : goal.returns-clause-moved
returns-clause-moved c =
    let all : c.sectors.i ≡ c.args.count = omega (arith, c.sectors.auto.i-end, c.sectors-test.false) in
    let moved = rw all at c.sectors.invariant.moved in
    rw c.sectors.invariant.numbers (used_front c.args.self.now.places.items c.sectors.self.places.items
    (length c.args.self.now.numbers.keys) c.args.from c.args.to c.args.count c.requires.some c.requires.down moved)

pub returns-clause-rest : goal.returns-clause-rest
returns-clause-rest c =
    let all : c.sectors.i ≡ c.args.count = omega (arith, c.sectors.auto.i-end, c.sectors-test.false) in
    let rest = rw all at c.sectors.invariant.rest in
    rw c.sectors.invariant.numbers (used_rest c.args.self.now.places.items c.sectors.self.places.items
    (length c.args.self.now.numbers.keys) c.args.from c.args.to c.args.count c.requires.some c.requires.down rest)
