use Rattle.std.proofs.Common.{◌+◌, ◌≡◌, subst, sym}
use Rattle.std.specs.Prelude.{IfSome}
use Rattle.aoe_audit.specs.Known.{value_of}
use Rattle.aoe_audit.proofs.KnownLemmas.{as-known-more, piece-is}
use Rattle.aoe_audit.proofs.known.Known.may_all_have.Goals as goal

pub sectors-preserved : goal.sectors-preserved
sectors-preserved c =
    let at = c.args.span.at in
    let i = c.sectors.i in
    let bytes = c.args.bytes.now in
    as-known-more at i bytes c.args.self.now c.sectors.invariant
    (subst (λ p. IfSome (value_of c.args.self.now (at + i)) (λ v. p ≡ v)) (piece-is bytes i) (c.may_have.ensures.same (cc)))

pub returns-then-not-may_have-clause-other : goal.returns-then-not-may_have-clause-other
returns-then-not-may_have-clause-other c = λ same as-known.
    let at = c.args.span.at in
    let i = c.sectors.i in
    let bytes = c.args.bytes.now in
    c.may_have.ensures.other (cc)
    (subst (λ p. IfSome (value_of c.args.self.now (at + i)) (λ v. p ≡ v)) (sym (piece-is bytes i)) (as-known i c.sectors-test.true))
