use Rattle.std.proofs.Common.{◌≡◌, ◌-◌, ◌^◌, length, sym, ap, arith}
use Rattle.std.proofs.lemmas.List.{length-replicate}
use Rattle.aoe_mirror.proofs.Bits.{bits_of_ones, count_all, length-bits_of}
use Rattle.aoe_mirror.proofs.marks.Marks.set_all.Goals as goal

pub invariant_of-self : goal.invariant_of-self
invariant_of-self c =
    let n = c.self.inside.len in
    let size = c.self.inside.words.len in
    let ones = c.fill.ensures.items (λ y e. e) in
    let all = bits_of_ones c.fill.new.self.items size n ones (omega (arith, c.self.invariant.room, c.self.inside.words.ok.0)) in
    record {
      bound = c.self.invariant.bound;
      room = omega (arith, ap length ones, length-replicate size (2 ^ 64 - 1), c.self.invariant.room, c.self.inside.words.ok.0);
      low = omega arith;
      count = rw all (sym (count_all n));
      lowest = λ s le lt. absurd (omega arith);
    }

pub returns : goal.returns
returns c =
    let n = c.self.inside.len in
    let whole : length c.args.self.now ≡ n = rw (← c.self.view_is) (length-bits_of c.self.inside.words.items n) in
    rw whole (bits_of_ones c.fill.new.self.items c.self.inside.words.len n (c.fill.ensures.items (λ y e. e))
    (omega (arith, c.self.invariant.room, c.self.inside.words.ok.0)))
