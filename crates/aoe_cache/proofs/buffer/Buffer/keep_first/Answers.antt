use Rattle.std.proofs.Common.{◌≡◌, ◌+◌, ℕ, List, length, nat_eq, get_or, take, arith, refl, ap, ◌∙◌}
use Rattle.indexmap.specs.IndexSet.{insert_key}
use Rattle.aoe_cache.specs.declared.place.HeldSector.{HeldSector}
use Rattle.aoe_cache.specs.Held.{numbers_of, ordered, placed}
use Rattle.aoe_cache.proofs.Ordered.{ascending_whole, ordered_same}
use Rattle.aoe_cache.proofs.Table.{index_more, length-first}
use Rattle.aoe_cache.proofs.buffer.Buffer.keep_first.Goals as goal

pub places-preserved : goal.places-preserved
places-preserved c =
    let i : ℕ = c.places.i in
    let places : List HeldSector = c.args.self.now.places.items in
    let p : HeldSector = c.index.result.now in
    let keys : c.insert.new.self.keys ≡ insert_key nat_eq c.places.self.numbers.keys c.at.result = rw c.unwrap.ensures at c.insert.ensures.keys in
    let place : p ≡ get_or places i p = c.index.ensures ∙ ap (λ v. get_or v.items i p) c.places.invariant.places in
    let numbers : c.insert.new.self.keys ≡ numbers_of (take (i + 1) places) =
    keys ∙ rw (c.places.invariant.numbers, c.at.ensures) (index_more c.args.held i places p c.requires.order c.places-test.true c.requires.held place) in
    record {
      numbers = numbers;
      once = c.insert.ensures.unique;
      room = omega (
        arith,
        c.places.invariant.room,
        c.insert.ensures.spare,
        length-first c.places.self.numbers.keys i places c.places.invariant.numbers
            (omega (arith, c.places-test.true, c.requires.held)),
        length-first c.insert.new.self.keys (i + 1) places numbers
            (omega (arith, c.places-test.true, c.requires.held)),
      );
      places = c.places.invariant.places;
    }

pub returns-clause-indexed : goal.returns-clause-indexed
returns-clause-indexed c =
    let places : List HeldSector = c.args.self.now.places.items in
    let now : List HeldSector = c.places.self.places.items in
    let keys : List ℕ = c.places.self.numbers.keys in
    let same : now ≡ places = ap (λ v. v.items) c.places.invariant.places in
    let all : c.places.i ≡ c.args.held = omega (arith, c.places.auto.i-end, c.places-test.false) in
    let len : length keys ≡ c.places.i = length-first keys c.places.i places c.places.invariant.numbers (omega (arith, all, c.requires.held)) in
    let first : take (length keys) now ≡ take c.args.held places = rw (len, all, same) refl in
    record {
      has = record { used = omega (arith, len, all, c.requires.held, ap length same); room = omega (arith, c.places.invariant.room, ap length same) };
      numbers = c.places.invariant.numbers ∙ rw (all, first) refl;
      once = c.places.invariant.once;
      whole = rw first (ascending_whole (take c.args.held places) c.requires.order);
    }

pub returns-clause-held : goal.returns-clause-held
returns-clause-held c =
    let places : List HeldSector = c.args.self.now.places.items in
    let all : c.places.i ≡ c.args.held = omega (arith, c.places.auto.i-end, c.places-test.false) in
    let len = length-first c.places.self.numbers.keys c.places.i places c.places.invariant.numbers (omega (arith, all, c.requires.held)) in
    let first : placed c.places.self ≡ take c.args.held places = rw (len, all) (ap (λ v. take c.args.held v.items) c.places.invariant.places) in
    ap ordered first ∙ ordered_same _ c.requires.order
