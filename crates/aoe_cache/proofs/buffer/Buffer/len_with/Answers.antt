use Rattle.std.proofs.Common.{◌≡◌, ◌+◌, ◌^◌, ℕ, List, arith, ap, sym, ◌∙◌}
use Rattle.aoe_cache.specs.declared.place.HeldSector.{HeldSector}
use Rattle.aoe_cache.specs.Held.{held_of}
use Rattle.aoe_cache.proofs.Ascending.{ascending_short, length-with_written}
use Rattle.aoe_cache.proofs.Steps.{some_absent, some_few, some_none, some_present, some_written}
use Rattle.aoe_cache.proofs.Table.{is_held, length-held, not_held}
use Rattle.aoe_cache.proofs.buffer.Buffer.len_with.Goals as goal
use Rattle.aoe_cache.proofs.buffer.Buffer.len_with.Goals.{then-not-contains, else-not-contains}

pub sectors-init : goal.sectors-init
sectors-init c = c.len-len.ensures.len ∙ sym (length-held c.args.self.now c.requires.buffer.indexed)
    ∙ sym (some_none c.args.at (held_of c.args.self.now) c.requires.buffer.order)

pub overflow_add-len : goal.overflow_add-len
overflow_add-len c =
    let held : List HeldSector = held_of c.args.self.now in
    omega (
      arith,
      c.sectors.invariant,
      some_few c.args.at held c.requires.buffer.order c.sectors.i,
      ascending_short 0
          (2 ^ 40) held c.requires.buffer.order c.requires.buffer.below,
      c.sectors-test.true,
      c.requires.range,
    )

pub sectors-preserved : goal.sectors-preserved
sectors-preserved c =
    let b = c.args.self.now in
    let s : ℕ = c.args.at + c.sectors.i in
    elim c.if-not-contains.branch [
      | then-not-contains w ↦ omega (
        arith,
        w.len-is,
        c.sectors.invariant,
        some_absent c.args.at (held_of b) c.requires.buffer.order c.sectors.i
            (not_held b c.requires.buffer.indexed s (sym c.contains.ensures ∙ w.if-not-contains.true)),
      )
      | else-not-contains w ↦
          let p = is_held b c.requires.buffer.indexed s (sym c.contains.ensures ∙ w.if-not-contains.false) in
          omega (arith, w.len-is, c.sectors.invariant, some_present c.args.at (held_of b) c.requires.buffer.order c.sectors.i p.0 p.1)
    ]

pub returns : goal.returns
returns c = λ piece.
    let held : List HeldSector = held_of c.args.self.now in
    let all : c.sectors.i ≡ c.args.count = omega (arith, c.sectors.auto.i-end, c.sectors-test.false) in
    c.sectors.invariant ∙ ap (λ (n : ℕ). some_written c.args.at n held) all ∙ sym (length-with_written c.args.at c.args.count piece held)
