-- What the law allows of a request with one reply, and of one with none.
use Rattle.std.proofs.Common.{◌≡◌, ◌++◌, ℕ, List, [], ◌∷◌, Bool, true, false, not, true≢false, Option, refl, sym, ap, subst, ◌∙◌}
use Rattle.aoe_frame.specs.Header.{fields}
use Rattle.aoe_frame.specs.declared.header.Header.{Header}
use Rattle.aoe_ata.specs.declared.args.AtaArgs.{AtaArgs}
use Rattle.aoe_ata.specs.declared.decision.AtaAnswer.{AtaAnswer}
use Rattle.aoe_ata.specs.declared.decision.AtaAnswer.TheVariants.{Abort, NotFound, Page, Mode, Give, Put, Verify, Sync}
use Rattle.aoe_lists.specs.Step.{Step}
use Rattle.aoe_lists.specs.Step as step
use Rattle.aoe_target.specs.Device.{State}
use Rattle.aoe_target.specs.History.{is_cut}
use Rattle.aoe_target.specs.Law.{Allows, AllowsAta, AllowsStep, AnswersSync, AnswersWrite, Edits, Fate, Gives, RepliesOrCut, Verifies, after, after_step, cut, ignored, replied, silent, step_of}
use Rattle.aoe_target.specs.Sectors.{Sectors}
use Rattle.aoe_target.specs.declared.heard.Effect.{Effect}
use Rattle.aoe_target.specs.declared.station.Station.{Station}
use Rattle.aoe_target.specs.declared.verdict.Verdict.{Verdict}
use Rattle.aoe_target.specs.declared.verdict.Verdict.TheVariants.{Ignored, Silent, Refused, Lists, Ata}
use Rattle.aoe_target.proofs.OneReply.{allows-one}
use Rattle.aoe_audit.specs.Judged.{answers_by, answers_step, reply_in}

-- no reply, and no loss of power
abbrev pub is_quiet : Fate → Bool
is_quiet ignored = true
is_quiet silent = true
is_quiet cut = false
is_quiet (replied e reply) = false

replies-loud : (P : Effect → List ℕ → Type 0) (fate : Fate) → RepliesOrCut P fate → is_quiet fate ≡ false
replies-loud P ignored p = absurd p
replies-loud P silent p = absurd p
replies-loud P cut p = refl
replies-loud P (replied e reply) p = refl

module _ (station : Station) (fate : Fate) where
  ata-loud : (a : AtaAnswer) (k : Option Sectors) (h : Header) (args : AtaArgs) → AllowsAta station k h args a fate → is_quiet fate ≡ false
  ata-loud Abort k h args p = ap is_quiet p
  ata-loud NotFound k h args p = ap is_quiet p
  ata-loud Page k h args p = ap is_quiet p
  ata-loud Mode k h args p = ap is_quiet p
  ata-loud (Give span) k h args p = replies-loud (Gives station k h args span) fate p
  ata-loud (Put span) k h args p = replies-loud (AnswersWrite station h args span) fate p
  ata-loud (Verify span) k h args p = replies-loud (Verifies station h args) fate p
  ata-loud Sync k h args p = replies-loud (AnswersSync station h args) fate p

  step-loud : (s : Step) (f : List ℕ) → AllowsStep station f s fate → is_quiet fate ≡ not (answers_step s)
  step-loud step.Silent f p = ap is_quiet p
  step-loud (step.Reply error args) f p = ap is_quiet p
  step-loud (step.Change next args) f p = replies-loud (Edits station f args) fate p

  -- a request is answered exactly where what becomes of it isn't quiet
  pub loud : (v : Verdict) (k : State) (f : List ℕ) → Allows station k f v fate → is_quiet fate ≡ not (answers_by station k.lists f v)
  loud Ignored k f p = ap is_quiet p
  loud Silent k f p = ap is_quiet p
  loud (Refused error) k f p = ap is_quiet p
  loud (Lists command) k f p = step-loud (step_of station k.lists f command) f p
  loud (Ata d) k f p = ata-loud d.answer k.sectors (fields f) d.args p

-- two fates without a reply
quiet-step : (s : Step) (station : Station) (f : List ℕ) (e d : Fate) → AllowsStep station f s e → AllowsStep station f s d → is_quiet e ≡ true → e ≡ d
quiet-step step.Silent station f e d p q quiet = p ∙ sym q
quiet-step (step.Reply error args) station f e d p q quiet = p ∙ sym q
quiet-step (step.Change next args) station f e d p q quiet = absurd (true≢false (sym quiet ∙ replies-loud (Edits station f args) e p))

quiet-one : (v : Verdict) (station : Station) (k : State) (f : List ℕ) (e d : Fate) → Allows station k f v e → Allows station k f v d
    → is_quiet e ≡ true → e ≡ d
quiet-one Ignored station k f e d p q quiet = p ∙ sym q
quiet-one Silent station k f e d p q quiet = p ∙ sym q
quiet-one (Refused error) station k f e d p q quiet = p ∙ sym q
quiet-one (Lists command) station k f e d p q quiet = quiet-step (step_of station k.lists f command) station f e d p q quiet
quiet-one (Ata a) station k f e d p q quiet = absurd (true≢false (sym quiet ∙ ata-loud station e a.answer k.sectors (fields f) a.args p))

-- the last of a list
abbrev last_of : List (List ℕ) → List ℕ → List ℕ
last_of [] d = d
last_of (x ∷ xs) d = last_of xs x

last-push : (xs : List (List ℕ)) (r d : List ℕ) → last_of (xs ++ r ∷ []) d ≡ r
last-push [] r d = refl
last-push (x ∷ xs) r d = last-push xs r x

pub last-same : (x y : List (List ℕ)) (r s : List ℕ) → x ++ r ∷ [] ≡ y ++ s ∷ [] → r ≡ s
last-same x y r s e = sym (last-push x r r) ∙ ap (λ l. last_of l r) e ∙ last-push y s r

-- what became of a request is told by its reply
module _ (v : Verdict) (station : Station) (k : State) (f : List ℕ) where
  clash : (e d : Fate) → Allows station k f v e → Allows station k f v d → is_quiet e ≡ true → is_quiet d ≡ false → ⊥
  clash e d p q quiet loud-d = true≢false (sym quiet ∙ loud station e v k f p ∙ sym (loud station d v k f q) ∙ loud-d)

  pub one-fate : (e d : Fate) (x y : List (List ℕ)) → Allows station k f v e → Allows station k f v d → is_cut e ≡ false → is_cut d ≡ false
      → x ++ reply_in e ≡ y ++ reply_in d → e ≡ d
  one-fate ignored ignored x y p q ue ud same = refl
  one-fate ignored silent x y p q ue ud same = quiet-one v station k f ignored silent p q refl
  one-fate ignored cut x y p q ue ud same = absurd (true≢false ud)
  one-fate ignored (replied d s) x y p q ue ud same = absurd (clash ignored (replied d s) p q refl refl)
  one-fate silent ignored x y p q ue ud same = quiet-one v station k f silent ignored p q refl
  one-fate silent silent x y p q ue ud same = refl
  one-fate silent cut x y p q ue ud same = absurd (true≢false ud)
  one-fate silent (replied d s) x y p q ue ud same = absurd (clash silent (replied d s) p q refl refl)
  one-fate cut d x y p q ue ud same = absurd (true≢false ue)
  one-fate (replied e r) ignored x y p q ue ud same = absurd (clash ignored (replied e r) q p refl refl)
  one-fate (replied e r) silent x y p q ue ud same = absurd (clash silent (replied e r) q p refl refl)
  one-fate (replied e r) cut x y p q ue ud same = absurd (true≢false ud)
  one-fate (replied e r) (replied d s) x y p q ue ud same =
      let is : r ≡ s = last-same x y r s same in
      let effect : e ≡ d = allows-one e d s v station k f (subst (λ (z : List ℕ). Allows station k f v (replied e z)) is p) q in
      λ i. replied (effect i) (is i)

  -- a request that the law answers has a reply
  pub answered : (e : Fate) → Allows station k f v e → is_cut e ≡ false → answers_by station k.lists f v ≡ true
      → (d : Effect) × (r : List ℕ) × (e ≡ replied d r)
  answered ignored p ue some-for = absurd (true≢false (loud station ignored v k f p ∙ ap not some-for))
  answered silent p ue some-for = absurd (true≢false (loud station silent v k f p ∙ ap not some-for))
  answered cut p ue some-for = absurd (true≢false ue)
  answered (replied d r) p ue some-for = (d, r, refl)

-- what becomes of one that it doesn't answer
abbrev pub quiet_fate : Verdict → Fate
quiet_fate Ignored = ignored
quiet_fate Silent = silent
quiet_fate (Refused error) = silent
quiet_fate (Lists command) = silent
quiet_fate (Ata d) = silent

quiet-of-step : (s : Step) (station : Station) (f : List ℕ) → answers_step s ≡ false → AllowsStep station f s silent
quiet-of-step step.Silent station f none-for = refl
quiet-of-step (step.Reply error args) station f none-for = absurd (true≢false none-for)
quiet-of-step (step.Change next args) station f none-for = absurd (true≢false none-for)

quiet-left-step : (s : Step) (k : State) → after_step s silent k ≡ k
quiet-left-step step.Silent k = refl
quiet-left-step (step.Reply error args) k = refl
quiet-left-step (step.Change next args) k = refl

module _ (station : Station) (k : State) (f : List ℕ) where
  pub quiet-allowed : (v : Verdict) → answers_by station k.lists f v ≡ false → Allows station k f v (quiet_fate v)
  quiet-allowed Ignored none-for = refl
  quiet-allowed Silent none-for = refl
  quiet-allowed (Refused error) none-for = absurd (true≢false none-for)
  quiet-allowed (Lists command) none-for = quiet-of-step (step_of station k.lists f command) station f none-for
  quiet-allowed (Ata d) none-for = absurd (true≢false none-for)

  pub quiet-leaves : (v : Verdict) → answers_by station k.lists f v ≡ false → after station f v (quiet_fate v) k ≡ k
  quiet-leaves Ignored none-for = refl
  quiet-leaves Silent none-for = refl
  quiet-leaves (Refused error) none-for = refl
  quiet-leaves (Lists command) none-for = quiet-left-step (step_of station k.lists f command) k
  quiet-leaves (Ata d) none-for = absurd (true≢false none-for)

pub quiet-uncut : (v : Verdict) → is_cut (quiet_fate v) ≡ false
quiet-uncut Ignored = refl
quiet-uncut Silent = refl
quiet-uncut (Refused error) = refl
quiet-uncut (Lists command) = refl
quiet-uncut (Ata d) = refl

pub quiet-reply : (v : Verdict) → reply_in (quiet_fate v) ≡ []
quiet-reply Ignored = refl
quiet-reply Silent = refl
quiet-reply (Refused error) = refl
quiet-reply (Lists command) = refl
quiet-reply (Ata d) = refl
