use Rattle.std.proofs.Common.{refl, sym, ◌∙◌}
use Rattle.std.proofs.lemmas.Slice.Eq.{bytes_eq-Decides}
use Rattle.aoe_target.specs.declared.heard.Effect.TheVariants as effect
use Rattle.aoe_audit.proofs.JudgeLemmas.{put-told}
use Rattle.aoe_audit.proofs.judge.tell_write.Goals as goal

pub returns-in-Ok-clause-told : goal.returns-in-Ok-clause-told
returns-in-Ok-clause-told c = λ k lists known.
    put-told c.args.station.now c.args.request.now c.args.args.now c.args.span c.args.reply.now _ _ k lists
    ((bytes_eq-Decides c.args.reply.now c.as_slice.result.now).0 (sym c.eq.ensures ∙ c.if-eq.true) ∙ c.as_slice.ensures.value ∙ c.put_ata.ensures)
    c.in-Ok.ensures known

pub returns-in-Err-clause-memory : goal.returns-in-Err-clause-memory
returns-in-Err-clause-memory c = λ k lists known. (
  effect.Wrote c.args.span,
  (
    refl,
    (bytes_eq-Decides c.args.reply.now c.as_slice.result.now).0 (sym c.eq.ensures ∙ c.if-eq.true) ∙ c.as_slice.ensures.value ∙ c.put_ata.ensures,
  ),
)
