use Rattle.std.proofs.Common.{List, nat_eq, arith, sym, ap, ◌∙◌}
use Rattle.std.proofs.lemmas.List.{length-set}
use Rattle.indexmap.specs.IndexSet.{insert_key}
use Rattle.aoe_cache.specs.declared.place.HeldSector.{HeldSector}
use Rattle.aoe_cache.specs.Held.{numbers_of, placed, ordered}
use Rattle.aoe_cache.proofs.Table.{length-insert_key, length-put_in, numbers_put, ordered_put, put_stored, whole_put, once_placed}
use Rattle.aoe_cache.proofs.buffer.Buffer.put_one.Goals as goal

pub place_for-index-requires-clause-free : goal.place_for-index-requires-clause-free
place_for-index-requires-clause-free c =
    let e : HeldSector = record { at = c.args.at; bytes = c.args.bytes.now } in
    let xs : List HeldSector = placed c.args.self.now in
    omega (
      arith,
      c.requires.room,
      length-insert_key e c.args.self.now.numbers.keys xs c.requires.indexed.numbers,
      length-put_in e xs c.requires.indexed.whole
          (once_placed c.args.self.now c.requires.indexed),
    )

pub index_mut-requires : goal.index_mut-requires
index_mut-requires c = omega (arith, c.place_for-index.ensures.within, c.place_for-index.ensures.has.used, c.place_for-index.new.self.places.ok.0)

pub returns-clause-indexed : goal.returns-clause-indexed
returns-clause-indexed c =
    let e : HeldSector = record { at = c.args.at; bytes = c.args.bytes.now } in
    let xs : List HeldSector = placed c.args.self.now in
    let found = c.place_for-index.ensures in
    let stored = put_stored e c.put.ensures (ap (λ v. v.items) found.places) c.requires.indexed.numbers found.numbers found.index found.has.used in
    let size = length-set c.place_for-index.new.self.places.items c.place_for-index.result c.put.new.self in
    record {
      has = record { used = omega (arith, size, found.has.used); room = omega (arith, size, found.has.room) };
      numbers = found.numbers ∙ (λ i. insert_key nat_eq (c.requires.indexed.numbers i) c.args.at) ∙ sym (numbers_put e xs) ∙ ap numbers_of (sym stored);
      once = found.once;
      whole = rw stored (whole_put e xs c.requires.whole c.requires.indexed.whole);
    }

pub returns-clause-held : goal.returns-clause-held
returns-clause-held c =
    let e : HeldSector = record { at = c.args.at; bytes = c.args.bytes.now } in
    let xs : List HeldSector = placed c.args.self.now in
    let found = c.place_for-index.ensures in
    let stored = put_stored e c.put.ensures (ap (λ v. v.items) found.places) c.requires.indexed.numbers found.numbers found.index found.has.used in
    ap ordered stored ∙ ordered_put e xs c.requires.whole c.requires.indexed.whole
