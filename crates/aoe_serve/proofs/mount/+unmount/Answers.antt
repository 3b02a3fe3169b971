use Rattle.aoe_serve.proofs.FileLemmas.{back-then}
use Rattle.aoe_serve.proofs.mount.+unmount.Goals as goal

pub returns-clause-back : goal.returns-clause-back
returns-clause-back g t c = back-then _ _ _ _ _ _ _ _ c.put_pair.ensures c.leave-file.ensures.leaves c.unmount.ensures.back
