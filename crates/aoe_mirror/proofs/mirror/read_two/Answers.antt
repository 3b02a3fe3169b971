use Rattle.std.proofs.Common.{◌≡◌, ◌∙◌, ap, is_err, length, take, arith}
use Rattle.aoe_mirror.specs.Clean.{clean_in}
use Rattle.aoe_mirror.specs.Mirror.{found_in}
use Rattle.aoe_mirror.specs.Sides.{side_in}
use Rattle.aoe_mirror.proofs.Cleaning.{sees_two}
use Rattle.aoe_mirror.proofs.mirror.read_two.Goals as goal

pub returns-in-Ok-clause-sees : goal.returns-in-Ok-clause-sees
returns-in-Ok-clause-sees g c =
    let size : length c.read.new.out ≡ 1024 = omega arith in
    sees_two (g.D.Disk.state c.args.disk.now) (g.D.Disk.state c.read.new.self) c.read.result c.read.new.out c.found_in.result c.found_in.ensures.side
    (ap is_err c.in-Ok.is) c.requires.two size c.read.ensures
    (c.found_in.ensures.found ∙ ap (λ l. found_in (side_in l) (clean_in c.split_at.result.1.now)) c.split_at.ensures.front
    ∙ ap (λ l. found_in (side_in (take 512 c.read.new.out)) (clean_in l)) c.split_at.ensures.back)
