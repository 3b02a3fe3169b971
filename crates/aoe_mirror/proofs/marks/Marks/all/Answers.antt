use Rattle.std.proofs.Common.{◌-◌, ◌^◌, length, sym, ap, arith}
use Rattle.std.proofs.lemmas.List.{length-replicate}
use Rattle.aoe_mirror.proofs.Bits.{bits_of_ones, count_all}
use Rattle.aoe_mirror.proofs.marks.Marks.all.Goals as goal

pub invariant_of-result : goal.invariant_of-result
invariant_of-result c =
    let words = c.in_ok-words.words.items in
    let n = c.args.len in
    let ones = c.in_ok-words.ensures.items_if_clones_equal (λ y e. e) in
    let all = bits_of_ones words c.div_ceil.result n ones (omega (arith, c.div_ceil.ensures)) in
    record {
      bound = c.requires;
      room = omega (arith, c.div_ceil.ensures, ap length ones, length-replicate c.div_ceil.result (2 ^ 64 - 1));
      low = omega arith;
      count = rw all (sym (count_all n));
      lowest = λ s le lt. absurd (omega arith);
    }

pub returns : goal.returns
returns c =
    bits_of_ones c.in_ok-words.words.items c.div_ceil.result c.args.len (c.in_ok-words.ensures.items_if_clones_equal (λ y e. e)) (omega (arith, c.div_ceil.ensures))
