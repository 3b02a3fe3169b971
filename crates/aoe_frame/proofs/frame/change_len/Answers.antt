use Rattle.std.proofs.Common.{refl, arith}
use Rattle.aoe_frame.proofs.Padding.{stretched-by}
use Rattle.aoe_frame.proofs.frame.change_len.Goals as goal

pub returns-then-len-2-clause-bytes : goal.returns-then-len-2-clause-bytes
returns-then-len-2-clause-bytes c = stretched-by c.args.out.now.items c.append.new.out.items _ c.args.len c.len-then-len-2.result c.requires
    (omega arith) c.len-then-len-2.ensures.value c.append.ensures refl
