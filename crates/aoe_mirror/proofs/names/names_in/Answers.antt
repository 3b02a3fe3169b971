use Rattle.std.proofs.Common.{Option, List, ℕ, Some, ap, sym, ◌∙◌, take, drop}
use Rattle.aoe_mirror.specs.Names.{digest_in}
use Rattle.aoe_mirror.proofs.Naming.{names_none, names_some}
use Rattle.aoe_mirror.proofs.names.names_in.Goals as goal

pub returns-then-not-is_third-clause-names : goal.returns-then-not-is_third-clause-names
returns-then-not-is_third-clause-names c = sym (names_none c.args.marked.now (sym c.are_zeros.ensures ∙ c.if-are_zeros.false) (sym c.is_third.ensures ∙ c.if-not-is_third.true))

pub returns-clause-names : goal.returns-clause-names
returns-clause-names c =
    let marked = c.args.marked.now in
    ap (λ (x : Option (List ℕ)). Some (record { one = x; two = c.digest_in-2.result })) c.digest_in.ensures.digest
    ∙ ap (λ (x : Option (List ℕ)). Some (record { one = digest_in (take 32 (drop 32 marked)); two = x })) c.digest_in-2.ensures.digest
    ∙ sym (names_some marked (sym c.are_zeros.ensures ∙ c.if-are_zeros.false) (sym c.is_third.ensures ∙ c.if-not-is_third.false))
