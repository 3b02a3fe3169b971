use Rattle.std.proofs.Common.{[], refl, sym, subst}
use Rattle.aoe_paths.specs.PathLog.{Recalls}
use Rattle.aoe_paths.specs.PathTable.{PathTable}
use Rattle.aoe_paths.proofs.PathLemmas.{marks-replicate, trips-replicate}
use Rattle.aoe_paths.proofs.RecallLemmas.{recalls-new}
use Rattle.aoe_paths.proofs.paths.Paths.new.Goals as goal

pub returns-clause-value : goal.returns-clause-value
returns-clause-value c = rw (
  c.copy_of.ensures,
  c.copy_of-2.ensures,
  c.in_ok-fresh.ensures,
  c.len.ensures.value,
  c.len-2.ensures.value,
  marks-replicate,
  trips-replicate,
) refl

pub returns-clause-recalls : goal.returns-clause-recalls
returns-clause-recalls c =
    let P : PathTable → Type 0 = λ table. Recalls table [] in
    subst P (sym (returns-clause-value c)) (recalls-new c.args.locals.now.items c.args.remotes.now.items)
