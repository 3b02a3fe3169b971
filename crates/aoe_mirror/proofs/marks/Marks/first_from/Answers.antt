use Rattle.std.proofs.Common.{◌≡◌, ◌/◌, ◌∙◌, length, get_or, ap, sym, arith}
use Rattle.std.proofs.lemmas.List.{get_or_read}
use Rattle.aoe_mirror.proofs.Bits.{clear_more, clear_word, length-bits_of}
use Rattle.aoe_mirror.specs.Marks.{bits_of}
use Rattle.aoe_mirror.proofs.marks.Marks.first_from.Goals as goal

pub marks-preserved-then-index-eq0 : goal.marks-preserved-then-index-eq0
marks-preserved-then-index-eq0 c =
    let m = c.self.inside in
    let read = get_or_read m.words.items (c.marks.s / 64) _ (omega (arith, c.self.invariant.room)) c.index.ensures 0 in
    let none : get_or m.words.items (c.marks.s / 64) 0 ≡ 0 = sym read ∙ c.if-index-eq0.true in (
      omega arith,
      clear_more (bits_of m.words.items m.len) c.args.from 64 c.marks.s c.marks.invariant.0 c.marks.invariant.1
          (λ k le lt. clear_word m.words.items m.len c.marks.s k none c.if-s-eq0.true le lt),
    )

pub contains-requires : goal.contains-requires
contains-requires c = rw (← c.self.view_is) (omega (arith, length-bits_of c.self.inside.words.items c.self.inside.len))

pub returns-clause-from : goal.returns-clause-from
returns-clause-from c = omega (arith, ap length c.self.view_is, length-bits_of c.self.inside.words.items c.self.inside.len)

pub returns-clause-within : goal.returns-clause-within
returns-clause-within c = omega (arith, ap length c.self.view_is, length-bits_of c.self.inside.words.items c.self.inside.len)

pub returns-clause-set : goal.returns-clause-set
returns-clause-set c = λ lt. absurd (omega (arith, ap length c.self.view_is, length-bits_of c.self.inside.words.items c.self.inside.len))
