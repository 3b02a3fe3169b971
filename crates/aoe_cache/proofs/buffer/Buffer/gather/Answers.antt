use Rattle.std.proofs.Common.{◌≡◌, ◌+◌, ◌*◌, List, length, drop, arith, ◌-◌, ap, ◌∙◌, length-drop}
use Rattle.std.proofs.lemmas.List.{length-take-le}
use Rattle.aoe_cache.specs.declared.place.HeldSector.{HeldSector}
use Rattle.aoe_cache.specs.Held.{placed}
use Rattle.aoe_cache.proofs.Places.{gather_more, used_from}
use Rattle.aoe_cache.proofs.buffer.Buffer.gather.Goals as goal

pub sectors-preserved : goal.sectors-preserved
sectors-preserved c =
    let hs : List HeldSector = drop c.args.from (placed c.args.self.now) in
    let len : length hs ≡ (length c.args.self.now.numbers.keys) - c.args.from =
    omega (
      arith,
      length-drop c.args.from (placed c.args.self.now),
      length-take-le
          (length c.args.self.now.numbers.keys) c.args.self.now.places.items c.requires.used,
    ) in
    let is = used_from c.args.self.now.places.items (length c.args.self.now.numbers.keys) c.args.from c.sectors.i c.index.result.now
    (omega (arith, c.requires.some)) c.index.ensures in
    let whole = c.bytes.ensures.whole in
    gather_more c.sectors.i (512 * c.sectors.i + 512 - 512 * c.sectors.i) hs c.index.result.now c.sectors.out c.copy_from_slice.new.self
    (omega (arith, len, c.requires.some)) is (c.copy_from_slice.ensures.after ∙ c.bytes.ensures.value) (ap length c.copy_from_slice.ensures.after ∙ whole)
    (omega (arith, c.requires.room, c.sectors.auto.out)) c.sectors.invariant
