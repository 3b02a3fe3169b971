use Rattle.std.proofs.Common.{◌≡◌, ◌∙◌, ap, inl, inr, refl, subst, sym, List, ℕ}
use Rattle.aoe_lists.specs.Settings.{Settings}
use Rattle.aoe_target.specs.Law.{step_of}
use Rattle.aoe_target.specs.Verdict.{verdict}
use Rattle.aoe_target.specs.declared.verdict.Verdict.TheVariants.{Ignored, Silent, Refused, Lists, Ata}
use Rattle.aoe_audit.specs.Known.{IsKnown, IsTold, IsToldAta, IsToldStep, Judging, Knowing, SaysOne}
use Rattle.aoe_audit.specs.declared.judge.Told.TheVariants.{Nothing}
use Rattle.aoe_audit.proofs.JudgeLemmas.{allowed-by, by-one, by-verdict, ok-more, on-err}
use Rattle.aoe_audit.proofs.judge.Judge.tell.Goals.{in-Ignored, in-Refused, in-Lists, in-Ata}
use Rattle.aoe_audit.proofs.judge.Judge.tell.Goals as goal

pub returns-clause-told : goal.returns-clause-told
returns-clause-told c = λ k known.
    let S = c.self.inside in
    let f = c.args.request.now in
    let r = c.args.reply.now in
    let a : Knowing = record { lists = S.lists; known = S.known } in
    let own : IsKnown a k = subst (λ (j : Judging). IsKnown j.knowing k) (sym c.self.view_is) known in
    let v : c.verdict_on.result ≡ verdict S.station k.lists f = c.verdict_on.ensures.verdict ∙ ap (λ (l : Settings). verdict S.station l f) (sym own.lists) in
    rw (← c.self.view_is) (elim c.match-verdict_on.branch [
      | in-Ignored w ↦ rw (w.result-is, w.self-inside-is) (elim w.in-Ignored.is [
        | inl i ↦ by-verdict S.station k f r a a Nothing Ignored (sym i ∙ v) (refl, refl)
        | inr i ↦ by-verdict S.station k f r a a Nothing Silent (sym i ∙ v) (refl, refl)
      ])
      | in-Refused w ↦ rw (w.result-is, w.self-inside-is)
          (by-verdict S.station k f r a a w.tell_one.result (Refused w.in-Refused.error) (sym w.in-Refused.is ∙ v)
          (by-one w.tell_one.result r _ k a own
          (subst (λ (b : List ℕ). SaysOne r b w.tell_one.result) (w.as_slice.ensures.value ∙ w.put_refusal.ensures) w.tell_one.ensures)))
      | in-Lists w ↦ rw (w.result-is, w.self-inside-is)
          (by-verdict S.station k f r a (record { lists = w.tell_list.new.lists; known = S.known }) w.tell_list.result (Lists w.in-Lists.command)
          (sym w.in-Lists.is ∙ v)
          (subst (λ (l : Settings). IsToldStep S.station k f (step_of S.station l f w.in-Lists.command) r a
          (record { lists = w.tell_list.new.lists; known = S.known }) w.tell_list.result)
          (sym own.lists) (w.tell_list.ensures k S.known own)))
      | in-Ata w ↦ rw (w.result-is, w.self-inside-is)
          (ok-more (IsToldAta S.station k f w.in-Ata.decision.args w.in-Ata.decision.answer r a (record { lists = S.lists; known = w.tell_ata.new.known }))
          (IsTold S.station k f r a (record { lists = S.lists; known = w.tell_ata.new.known }))
          (λ t told. by-verdict S.station k f r a (record { lists = S.lists; known = w.tell_ata.new.known }) t (Ata w.in-Ata.decision)
          (sym w.in-Ata.is ∙ v) told)
          w.tell_ata.result (w.tell_ata.ensures.told k S.lists own))
    ])

pub returns-clause-memory : goal.returns-clause-memory
returns-clause-memory c = λ k known.
    let S = c.self.inside in
    let f = c.args.request.now in
    let a : Knowing = record { lists = S.lists; known = S.known } in
    let own : IsKnown a k = subst (λ (j : Judging). IsKnown j.knowing k) (sym c.self.view_is) known in
    let v : c.verdict_on.result ≡ verdict S.station k.lists f = c.verdict_on.ensures.verdict ∙ ap (λ (l : Settings). verdict S.station l f) (sym own.lists) in
    rw (← c.self.view_is) (elim c.match-verdict_on.branch [
      | in-Ignored w ↦ rw w.result-is tt
      | in-Refused w ↦ rw w.result-is tt
      | in-Lists w ↦ rw w.result-is tt
      | in-Ata w ↦ rw w.result-is
          (on-err w.tell_ata.result (allowed-by S.station k f c.args.reply.now w.in-Ata.decision (sym w.in-Ata.is ∙ v)) (w.tell_ata.ensures.memory k S.lists own))
    ])
