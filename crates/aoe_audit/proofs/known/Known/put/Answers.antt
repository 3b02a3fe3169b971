use Rattle.std.proofs.Common.{◌+◌, ◌∙◌, Some, cond, nat_eq}
use Rattle.aoe_audit.specs.Known.{value_of}
use Rattle.aoe_audit.proofs.KnownLemmas.{piece-is, put-more}
use Rattle.aoe_audit.proofs.known.Known.put.Goals as goal

pub sectors-preserved : goal.sectors-preserved
sectors-preserved c = λ q.
    c.in_ok-put_one.ensures q
    ∙ (λ j. cond (nat_eq (c.args.span.at + c.sectors.i) q) (Some (piece-is c.args.bytes.now c.sectors.i j)) (c.sectors.invariant q j))
    ∙ put-more c.args.span.at c.sectors.i q c.args.bytes.now (value_of c.args.self.now q)
