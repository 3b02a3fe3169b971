use Rattle.aoe_keep.proofs.Mounting.{always_found, always_format}
use Rattle.aoe_keep.proofs.keep.Keep.mount.Goals as goal

pub returns-clause-finds : goal.returns-clause-finds
returns-clause-finds g c = always_found c.in_ok-mount.field-0.lists (g.D.Disk.state c.args.disk).contents
    (g.D.Disk.state c.in_ok-mount.field-0.disk).contents c.in_ok-mount.ensures.ok.stands

pub returns-clause-formats : goal.returns-clause-formats
returns-clause-formats g c =
    always_format c.in_ok-mount.field-0.place c.in_ok-mount.field-0.is_closed c.in_ok-mount.field-0.lists (g.D.Disk.state c.args.disk).contents
    (g.D.Disk.state c.in_ok-mount.field-0.disk).contents
    c.in_ok-mount.ensures.stands c.in_ok-mount.ensures.ok.stands
