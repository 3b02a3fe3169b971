use Rattle.std.proofs.Common.{◌∙◌}
use Rattle.aoe_serve.specs.Slots.{slots_of}
use Rattle.aoe_serve.proofs.EndLemmas.{run_ends}
use Rattle.aoe_serve.proofs.FileLemmas.{run-count}
use Rattle.aoe_serve.proofs.run.run_slots.Goals as goal

pub returns-clause-ran : goal.returns-clause-ran
returns-clause-ran g c =
    let ran = c.run-end.ensures.run in
    let synced = c.sync_each-unsynced.ensures.syncs in
    record {
      run = record {
        middle = slots_of g.T.Store.lasts g.T.Store.state g.D.Disk.state c.run-end.new.shelf.targets;
        ran = ran;
        results = synced.0;
        synced = synced.1;
        unsynced = synced.2;
      };
      ends = λ finds. run_ends _ c.args.plan c.run-end.result _ _ _ _ _ synced.0 ran finds synced.1;
    }

pub returns-clause-count : goal.returns-clause-count
returns-clause-count g c = c.sync_each-unsynced.ensures.count
    ∙ run-count g.T.Store.lasts g.T.Store.state g.D.Disk.state _ c.args.plan c.run-end.result _ _ c.args.shelf.now.targets c.run-end.new.shelf.targets
    c.run-end.ensures.run
