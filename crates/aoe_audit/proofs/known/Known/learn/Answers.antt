use Rattle.std.proofs.Common.{◌+◌, ◌∙◌, None, Some, cond, nat_eq}
use Rattle.std.specs.Option.{option_or}
use Rattle.aoe_audit.specs.Known.{value_of}
use Rattle.aoe_audit.proofs.KnownLemmas.{piece-is, read-more}
use Rattle.aoe_audit.proofs.known.Known.learn.Goals as goal

pub sectors-preserved : goal.sectors-preserved
sectors-preserved c = λ q.
    let at = c.args.span.at in
    let i = c.sectors.i in
    let bytes = c.args.bytes.now in
    c.in_ok-learn_one.ensures q
    ∙ (λ j. option_or (c.sectors.invariant q j) (cond (nat_eq (at + i) q) (Some (piece-is bytes i j)) None))
    ∙ read-more at i q bytes (value_of c.args.self.now q)
