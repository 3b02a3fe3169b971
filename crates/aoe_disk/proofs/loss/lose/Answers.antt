use Rattle.std.proofs.Common.{arith, ◌∙◌, sym, ◌+◌, ◌%◌, ◌^◌}
use Rattle.aoe_disk.proofs.Pieces.{with_piece-whole}
use Rattle.aoe_disk.proofs.Losing.{mixed_spoils}
use Rattle.aoe_disk.proofs.loss.lose.Goals as goal

pub returns-in_default : goal.returns-in_default
returns-in_default c = rw (c.spoil_at.ensures, c.in-Mix.is) (with_piece-whole c.args.now.now c.requires.now
    ∙ sym (mixed_spoils ((c.in-Mix.x + c.args.s) % 2 ^ 64 % 4) c.args.now.now c.args.settled.now (omega arith) (omega arith) (omega arith)))
