use Rattle.aoe_frame.proofs.Padding.{overwritten}
use Rattle.aoe_frame.proofs.frame.overwrite.Goals as goal

pub returns : goal.returns
returns c = overwritten c.args.out.now.items c.as_mut_slice.result.now _ c.args.bytes.now c.as_mut_slice.ensures.value c.put_first.ensures c.requires
