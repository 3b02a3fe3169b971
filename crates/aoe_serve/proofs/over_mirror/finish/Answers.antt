use Rattle.std.proofs.Common.{ap, is_err}
use Rattle.aoe_serve.proofs.MirrorLemmas.{ends_failed, ends_marked, rests_copied, rests_synced}
use Rattle.aoe_serve.proofs.over_mirror.finish.Goals as goal

pub returns-in-Err : goal.returns-in-Err
returns-in-Err g c = rw c.failed.ensures (ends_failed c.args.well _ c.sync.result _ _ (ap is_err c.in-Err.is) c.sync.ensures.mirror
    c.sync.ensures.told c.sync.ensures.blames)

pub mark_clean-requires : goal.mark_clean-requires
mark_clean-requires g c =
    (rests_copied c.args.well c.sync.result _ _ _ (ap is_err c.in_default.is) c.sync.ensures.mirror c.resync_all.ensures.copies).quiet

pub returns-then-well : goal.returns-then-well
returns-then-well g c = ends_marked _ _ _ c.requires c.mark_clean.ensures.marks c.args.well
    (rests_copied c.args.well c.sync.result _ _ _ (ap is_err c.in_default.is) c.sync.ensures.mirror c.resync_all.ensures.copies)

pub mark_clean-requires-2 : goal.mark_clean-requires-2
mark_clean-requires-2 g c = (rests_synced c.args.well c.sync.result _ _ c.if-well.false (ap is_err c.in_default.is) c.sync.ensures.mirror).quiet

pub returns : goal.returns
returns g c = ends_marked _ _ _ c.requires c.mark_clean-2.ensures.marks c.args.well
    (rests_synced c.args.well c.sync.result _ _ c.if-well.false (ap is_err c.in_default.is) c.sync.ensures.mirror)
