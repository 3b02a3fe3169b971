use Rattle.std.proofs.Common.{◌≡◌, ◌∙◌, ◌+◌, ◌-◌, ◌*◌, List, ℕ, length, take, drop, ap, arith, sym}
use borrow.Rule.Slice.PartMut.{put_mid}
use Rattle.aoe_disk.specs.State.{with_piece, sector}
use Rattle.aoe_disk.specs.Loss.{left_of}
use Rattle.aoe_disk.proofs.Pieces.{put_mid-with_piece}
use Rattle.aoe_disk.proofs.Touching.{length-sector}
use Rattle.aoe_disk.proofs.Losing.{length-left_of}
use Rattle.aoe_disk.proofs.loss.lose_at.Goals as goal

pub returns : goal.returns
returns c =
    let s = c.args.s in
    let now = c.args.now.now in
    let settled = c.args.settled.now in
    let n : 512 * c.args.s + 512 - 512 * c.args.s ≡ 512 = omega arith in
    let e : c.lose.new.now ≡ left_of c.args.how s (sector now s) (sector settled s) =
    c.lose.ensures ∙ (λ i. left_of c.args.how s (take (n i) (drop (512 * s) now)) (take (n i) (drop (512 * s) settled))) in
    let size =
    length-left_of c.args.how s (sector now s) (sector settled s) (length-sector now s c.requires.now) (length-sector settled s c.requires.settled) in
    let long : length c.lose.new.now ≡ 512 = ap length e ∙ size in
    let there : put_mid (512 * c.args.s) (512 * c.args.s + 512 - 512 * c.args.s) c.args.now.now c.lose.new.now ≡ with_piece c.args.now.now
    (512 * c.args.s) c.lose.new.now = put_mid-with_piece c.args.now.now c.lose.new.now (512 * c.args.s) (512 * c.args.s + 512 - 512 * c.args.s)
    (n ∙ sym long) in
    there ∙ ap (λ (l : List ℕ). with_piece c.args.now.now (512 * c.args.s) l) e
