use Rattle.std.proofs.Common.{refl}
use Rattle.aoe_frame.proofs.Padding.{padded-by}
use Rattle.aoe_frame.proofs.frame.pad.Goals as goal

pub returns-then-len-lt-MIN_FRAME : goal.returns-then-len-lt-MIN_FRAME
returns-then-len-lt-MIN_FRAME c = padded-by c.args.out.now.items c.append.new.out.items _ c.len-missing.result c.len-missing.ensures.value c.append.ensures refl
