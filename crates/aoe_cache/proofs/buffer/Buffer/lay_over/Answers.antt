use Rattle.std.proofs.Common.{◌≡◌, ◌≤◌, ◌+◌, ◌*◌, ◌/◌, ℕ, List, length, arith, sym, ◌∙◌}
use Rattle.aoe_cache.specs.declared.place.HeldSector.{HeldSector}
use Rattle.aoe_cache.specs.Held.{held_of}
use Rattle.aoe_cache.proofs.Laying.{lay_first, lay_last, lay_next, lay_none}
use Rattle.aoe_cache.proofs.buffer.Buffer.lay_over.Goals as goal
use Rattle.aoe_cache.proofs.buffer.Buffer.lay_over.Goals.{in-Some, in_default}

pub sectors-init : goal.sectors-init
sectors-init c = λ bytes fits so.
    let hs : List HeldSector = held_of c.args.self.now in
    let n : ℕ = length c.args.out.now / 512 in
    let first = lay_first c.args.at n bytes hs (omega (arith, fits, c.requires.whole)) c.requires.buffer.order in
    let start : c.args.at + 0 ≡ c.args.at = omega arith in
    so ∙ rw start (rw c.requires.whole at first)

pub lay_over-requires-clause-from : goal.lay_over-requires-clause-from
lay_over-requires-clause-from c = omega (arith, c.in-Some.ensures.number)

pub lay_over-requires-clause-room : goal.lay_over-requires-clause-room
lay_over-requires-clause-room c = omega (arith, c.in-Some.ensures.number, c.requires.whole, c.sectors.auto.out, c.sectors-test.true)

pub sectors-preserved : goal.sectors-preserved
sectors-preserved c = λ bytes fits so.
    let hs : List HeldSector = held_of c.args.self.now in
    let n : ℕ = length c.args.out.now / 512 in
    let fit : 512 * c.args.at + 512 * n ≤ length bytes = omega (arith, fits, c.requires.whole) in
    let now = rw (← c.requires.whole) at (c.sectors.invariant bytes fits so) in
    elim c.match-get.branch [
      | in-Some w ↦
          let next = lay_next c.args.at n bytes hs fit c.requires.buffer.order c.sectors.i w.in-Some.place.now c.sectors.out c.sectors-test.true
          w.in-Some.ensures.number (sym w.in-Some.ensures.held) now in
          w.out-is ∙ w.lay_over.ensures ∙ (rw c.requires.whole at next)
      | in_default w ↦
          let none = lay_none c.args.at n bytes hs fit c.requires.buffer.order c.sectors.i (sym w.in_default.ensures.held) in
          w.out-is ∙ (rw none at (c.sectors.invariant bytes fits so))
    ]

pub returns : goal.returns
returns c = λ bytes fits so.
    let hs : List HeldSector = held_of c.args.self.now in
    let n : ℕ = length c.args.out.now / 512 in
    let all : c.sectors.i ≡ n = omega (arith, c.sectors-test.false, c.sectors.auto.i-end) in
    let last = lay_last c.args.at n bytes hs (omega (arith, fits, c.requires.whole)) c.requires.buffer.order in
    (rw all at (c.sectors.invariant bytes fits so)) ∙ (rw c.requires.whole at last)
