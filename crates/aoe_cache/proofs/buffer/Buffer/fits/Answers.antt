use Rattle.std.proofs.Common.{◌≤◌, ◌+◌, List, length, arith}
use Rattle.std.proofs.lemmas.Bool.{le-leb}
use Rattle.aoe_cache.specs.declared.place.HeldSector.{HeldSector}
use Rattle.aoe_cache.specs.Held.{held_of, with_written}
use Rattle.aoe_cache.proofs.Ascending.{length-with_written}
use Rattle.aoe_cache.proofs.Steps.{some_few}
use Rattle.aoe_cache.proofs.Table.{length-held}
use Rattle.aoe_cache.proofs.buffer.Buffer.fits.Goals as goal

pub returns-then-len-count : goal.returns-then-len-count
returns-then-len-count c = λ piece.
    let held : List HeldSector = held_of c.args.self.now in
    let within : length (with_written c.args.at c.args.count piece held) ≤ c.args.room =
    omega (
      arith,
      c.if-len-count.true,
      c.len.ensures.len,
      length-held c.args.self.now c.requires.buffer.indexed,
      some_few c.args.at held c.requires.buffer.order c.args.count,
      length-with_written c.args.at c.args.count piece held,
    ) in
    (λ _. within, λ _. le-leb (c.len.result + c.args.count) c.args.room c.if-len-count.true)
