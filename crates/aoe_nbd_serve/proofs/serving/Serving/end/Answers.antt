use Rattle.std.proofs.Common.{inl, sym, ◌∙◌}
use Rattle.aoe_nbd_serve.proofs.DeskSteps.{wanted-is}
use Rattle.aoe_nbd_serve.proofs.EndSteps.{ended-as}
use Rattle.aoe_nbd_serve.specs.declared.terms.ServeEnd.TheVariants.{Ended}
use Rattle.aoe_nbd_serve.proofs.serving.Serving.end.Goals as goal

pub returns-then-not-is_flush_wanted-clause-ends : goal.returns-then-not-is_flush_wanted-clause-ends
returns-then-not-is_flush_wanted-clause-ends c = λ s seen most x.
    ended-as (Ended c.in-Some.why) x (c.in-Some.ensures s seen most x, inl (sym (wanted-is c.args.self.now x.keeps) ∙ sym c.is_flush_wanted.ensures ∙ c.if-not-is_flush_wanted.true))

pub returns-clause-ends : goal.returns-clause-ends
returns-clause-ends c = λ s seen most x. c.flush.ensures.flushes s seen most x (c.in-Some.why, c.in-Some.ensures s seen most x)
