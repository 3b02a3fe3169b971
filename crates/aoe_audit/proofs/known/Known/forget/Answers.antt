use Rattle.std.proofs.Common.{◌+◌, ◌∙◌, None, cond, nat_eq}
use Rattle.aoe_audit.specs.Known.{value_of}
use Rattle.aoe_audit.proofs.KnownLemmas.{lost-more}
use Rattle.aoe_audit.proofs.known.Known.forget.Goals as goal

pub sectors-preserved : goal.sectors-preserved
sectors-preserved c = λ q.
    c.forget_one.ensures q ∙ (λ j. cond (nat_eq (c.args.span.at + c.sectors.i) q) None (c.sectors.invariant q j))
    ∙ lost-more c.args.span.at c.sectors.i q (value_of c.args.self.now q)
