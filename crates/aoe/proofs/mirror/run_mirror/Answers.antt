use Rattle.std.proofs.Common.{sym}
use Rattle.aoe.proofs.Blame.{at-first, retold}
use Rattle.aoe.proofs.Mirrors.{all-four, leaves-others, link-told, mirror-status, plan-served, runs-mirror, sink-told, source-told, wanted-memory}
use Rattle.aoe.proofs.mirror.run_mirror.Goals as goal

pub returns-clause-runs : goal.returns-clause-runs
returns-clause-runs g c =
    rw c.mirrored_as.ensures
    (runs-mirror g.D.Disk.state c.args.asked _ _ _ c.export_mirror-answer.result.0 c.take_four-given.result c.export_mirror-answer.result.1 _ _
    c.take_four-given.ensures.taken c.put_four.ensures
    (rw (c.mirror_plan-options.ensures.options, c.mirror_plan-options.ensures.plan) at c.export_mirror-answer.ensures.ran)
    c.export_mirror-answer.ensures.stopped (record {
      source = c.export_mirror-answer.ensures.source;
      sink = c.export_mirror-answer.ensures.sink;
      links = c.export_mirror-answer.ensures.links;
    }))

pub returns-clause-status : goal.returns-clause-status
returns-clause-status g c = rw (c.mirrored_as.ensures, sym (plan-served c.args.asked))
    (mirror-status g.D.Disk.state _ _ _ _ _ _ _ c.export_mirror-answer.result.0
    (rw c.mirror_plan-options.ensures.plan at c.export_mirror-answer.ensures.ran))

pub returns-clause-leaves : goal.returns-clause-leaves
returns-clause-leaves g c =
    leaves-others g.D.Disk.state _ _ _ _ _ _ _ c.export_mirror-answer.result.0
    (rw c.mirror_plan-options.ensures.plan at c.export_mirror-answer.ensures.ran) (record {
      source = c.export_mirror-answer.ensures.source;
      sink = c.export_mirror-answer.ensures.sink;
      links = c.export_mirror-answer.ensures.links;
    })

pub returns-clause-memory : goal.returns-clause-memory
returns-clause-memory g c told = (
  wanted-memory c.mirrored_as.result c.export_mirror-answer.result.0 c.mirrored_as.ensures c.export_mirror-answer.ensures.source told,
  wanted-memory c.mirrored_as.result c.export_mirror-answer.result.0 c.mirrored_as.ensures c.export_mirror-answer.ensures.sink told,
  wanted-memory c.mirrored_as.result c.export_mirror-answer.result.0 c.mirrored_as.ensures c.export_mirror-answer.ensures.links told,
)

pub returns-clause-there : goal.returns-clause-there
returns-clause-there g c = rw c.put_four.ensures (all-four c.export_mirror-answer.result.1)

pub returns-clause-source : goal.returns-clause-source
returns-clause-source g c =
    retold _ _ (source-told c.mirrored_as.result c.export_mirror-answer.result.0 c.mirrored_as.ensures) _ _ c.export_mirror-answer.ensures.source_blame

pub returns-clause-sink : goal.returns-clause-sink
returns-clause-sink g c =
    retold _ _ (sink-told c.mirrored_as.result c.export_mirror-answer.result.0 c.mirrored_as.ensures) _ _ c.export_mirror-answer.ensures.sink_blame

pub returns-clause-first : goal.returns-clause-first
returns-clause-first g c =
    let told = link-told c.mirrored_as.result c.export_mirror-answer.result.0 c.mirrored_as.ensures in
    at-first _ _ _ _ (λ a b blamed. retold _ _ told _ _ blamed) c.export_mirror-answer.ensures.link_blame

pub export_mirror-answer-requires-clause-truly : goal.export_mirror-answer-requires-clause-truly
export_mirror-answer-requires-clause-truly g c = (c.requires.told c.take_four-given.result c.take_four-given.ensures.taken).0

pub export_mirror-answer-requires-clause-alike : goal.export_mirror-answer-requires-clause-alike
export_mirror-answer-requires-clause-alike g c = (c.requires.told c.take_four-given.result c.take_four-given.ensures.taken).1
