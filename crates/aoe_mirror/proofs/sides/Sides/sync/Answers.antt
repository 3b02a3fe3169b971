use Rattle.std.proofs.Common.{false, true}
use Rattle.aoe_mirror.specs.Sides.{pair_of}
use Rattle.aoe_mirror.proofs.Syncing.{blames_then, settled_syncs, stays_then, unsettled_syncs}
use Rattle.aoe_mirror.proofs.Lowest.{lowest_after, settled_lowest, unsettled_lowest}
use Rattle.aoe_mirror.proofs.Steps.{settled_counts}
use Rattle.aoe_mirror.proofs.sides.Sides.sync.Goals as goal

pub returns-in-Err-clause-syncs : goal.returns-in-Err-clause-syncs
returns-in-Err-clause-syncs g c = unsettled_syncs _ (pair_of g.D.Disk.state c.args.self.now)
    (pair_of g.D.Disk.state c.settle.new.self) c.requires c.in-Err.ensures.settles

pub returns-in-Ok-clause-syncs : goal.returns-in-Ok-clause-syncs
returns-in-Ok-clause-syncs g c = settled_syncs c.sync_both.result (pair_of g.D.Disk.state c.args.self.now) (pair_of g.D.Disk.state c.settle.new.self)
    (pair_of g.D.Disk.state c.sync_both.new.self) c.requires c.in-Ok.ensures.settles c.sync_both.ensures.syncs

pub returns-in-Ok-clause-blames : goal.returns-in-Ok-clause-blames
returns-in-Ok-clause-blames g c = blames_then _ (pair_of g.D.Disk.state c.args.self.now) (pair_of g.D.Disk.state c.settle.new.self)
    (pair_of g.D.Disk.state c.sync_both.new.self) (settled_counts false _ _ c.in-Ok.ensures.settles) c.sync_both.ensures.syncs.counts c.sync_both.ensures.blames

pub returns-in-Ok-clause-told : goal.returns-in-Ok-clause-told
returns-in-Ok-clause-told g c = λ none. stays_then false (pair_of g.D.Disk.state c.args.self.now) (pair_of g.D.Disk.state c.settle.new.self)
    (pair_of g.D.Disk.state c.sync_both.new.self) c.in-Ok.ensures.settles (c.sync_both.ensures.told none)

pub returns-in-Err-clause-lowest : goal.returns-in-Err-clause-lowest
returns-in-Err-clause-lowest g c = unsettled_lowest true (pair_of g.D.Disk.state c.args.self.now) (pair_of g.D.Disk.state c.settle.new.self)
    c.requires c.in-Err.ensures.settles

pub returns-in-Ok-clause-lowest : goal.returns-in-Ok-clause-lowest
returns-in-Ok-clause-lowest g c =
    let old = pair_of g.D.Disk.state c.args.self.now in
    let mid = pair_of g.D.Disk.state c.settle.new.self in
    lowest_after _ old mid (pair_of g.D.Disk.state c.sync_both.new.self) (settled_lowest old mid c.requires c.in-Ok.ensures.settles)
    c.sync_both.ensures.blames c.sync_both.ensures.lowest
