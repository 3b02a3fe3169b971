use Rattle.std.proofs.Common.{◌≡◌, ◌<◌, ◌%◌, ◌/◌, ◌∙◌, length, get_or, eqb, ap, sym, arith}
use Rattle.std.proofs.lemmas.List.{get_or_read}
use Rattle.std.specs.Int.{bit_at}
use Rattle.aoe_mirror.proofs.Bits.{bit_test, get_or-bits_of, length-bits_of}
use Rattle.aoe_mirror.proofs.marks.Marks.contains.Goals as goal

pub index-requires : goal.index-requires
index-requires c =
    omega (arith, length-bits_of c.self.inside.words.items c.self.inside.len, ap length c.self.view_is, c.self.invariant.room, c.self.inside.words.ok.0)

pub returns : goal.returns
returns c =
    let words = c.self.inside.words.items in
    let within : c.args.s < c.self.inside.len = omega (arith, length-bits_of words c.self.inside.len, ap length c.self.view_is) in
    let read : c.index.result.now ≡ get_or words (c.args.s / 64) 0 =
    get_or_read words (c.args.s / 64) _ (omega (arith, c.self.invariant.room)) c.index.ensures 0 in
    rw (← c.self.view_is)
    (bit_test c.index.result.now (c.args.s % 64) (omega arith)
    ∙ ap (λ x. eqb (bit_at x (c.args.s % 64)) 1) read
    ∙ sym (get_or-bits_of words c.self.inside.len c.args.s within))
