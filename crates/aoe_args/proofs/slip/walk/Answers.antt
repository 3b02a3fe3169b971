-- Each word that was passed is right.
use Rattle.std.proofs.Common.{arith, map, string_bytes}
use Rattle.aoe_args.specs.Apps.{form}
use Rattle.aoe_args.specs.Slips.{IsRight}
use Rattle.aoe_args.proofs.RightLemmas.{and_here, none_walked}
use Rattle.aoe_args.proofs.slip.walk.Goals as goal

pub words-init : goal.words-init
words-init c = record {
  walked = none_walked (form c.args.form) (map string_bytes c.args.words.now);
  right = λ n behind below. absurd (omega arith);
}

pub words-preserved : goal.words-preserved
words-preserved c = record {
  walked = c.in_ok-walked.ensures.walked;
  right =
      and_here (IsRight (form c.args.form) (map string_bytes c.args.words.now)) c.words.place c.words.invariant.right c.in_ok-walked.ensures.right;
}
