use Rattle.std.proofs.Common.{◌≤◌, refl, arith}
use Rattle.aoe_serve.proofs.MirrorLemmas.{closed, handed_since, mirrored, same_first, tells_since}
use Rattle.aoe_serve.proofs.over_mirror.export_since.Goals as goal

pub returns-in-Err-clause-link_count : goal.returns-in-Err-clause-link_count
returns-in-Err-clause-link_count g c = same_first (λ a b. g.L.Link.faults a ≤ g.L.Link.faults b) c.args.links.now (λ x. omega arith)

pub returns-in-Err-clause-link_blame : goal.returns-in-Err-clause-link_blame
returns-in-Err-clause-link_blame g c =
    same_first _ c.args.links.now (λ x. record { cause = λ told. absurd told; no_fault = λ _. refl; one_fault = omega arith })

pub mirror_at-requires-clause-since : goal.mirror_at-requires-clause-since
mirror_at-requires-clause-since g c =
    handed_since g.D.Disk.state c.args.disks c.in-Ok.mounted.0.sides g.G.Given.faults c.requires.faults c.in-Ok.ensures.mounts c.in-Ok.ensures.mirror

pub returns-clause-ran : goal.returns-clause-ran
returns-clause-ran g c =
    mirrored g.D.Disk.state c.args.disks c.mirror_at.result.1 c.in-Ok.mounted.0.sides c.in-Ok.mounted.1 c.in-Ok.ensures.mounts c.in-Ok.ensures.keep
    _ g.G.Given.faults _ c.args.plan _ _ c.mirror_at.result.0 c.requires.faults c.mirror_at.ensures.ran

pub returns-clause-stopped : goal.returns-clause-stopped
returns-clause-stopped g c =
    closed g.D.Disk.state c.args.disks c.mirror_at.result.1 c.in-Ok.mounted.0.sides c.in-Ok.mounted.1 c.in-Ok.ensures.mounts c.in-Ok.ensures.keep
    c.mirror_at.result.0 c.mirror_at.ensures.stopped

pub returns-clause-told : goal.returns-clause-told
returns-clause-told g c =
    tells_since g.D.Disk.state c.args.disks c.in-Ok.mounted.0.sides _ _ c.mirror_at.result.0 c.in-Ok.ensures.mounts c.mirror_at.ensures.told
