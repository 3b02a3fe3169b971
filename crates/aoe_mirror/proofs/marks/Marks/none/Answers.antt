use Rattle.std.proofs.Common.{ℕ, length, sym, ap, arith}
use Rattle.std.proofs.lemmas.List.{length-replicate}
use Rattle.aoe_disk.proofs.Pieces.{is_loose-replicate}
use Rattle.aoe_mirror.proofs.Bits.{bits_of_zeros, none_count}
use Rattle.aoe_mirror.proofs.marks.Marks.none.Goals as goal

pub invariant_of-result : goal.invariant_of-result
invariant_of-result c =
    let words = c.in_ok-words.words.items in
    let n = c.args.len in
    let zeros = c.in_ok-words.ensures.items_if_clones_equal (λ y e. e) in
    let none = bits_of_zeros words c.div_ceil.result n zeros (omega (arith, c.div_ceil.ensures)) in
    record {
      bound = c.requires;
      room = omega (arith, c.div_ceil.ensures, ap length zeros, length-replicate {A = ℕ} c.div_ceil.result 0);
      low = omega arith;
      count = rw none (sym (none_count _ (λ s. is_loose-replicate n s)));
      lowest = λ s le lt. rw none (is_loose-replicate n s);
    }

pub returns : goal.returns
returns c =
    bits_of_zeros c.in_ok-words.words.items c.div_ceil.result c.args.len (c.in_ok-words.ensures.items_if_clones_equal (λ y e. e)) (omega (arith, c.div_ceil.ensures))
