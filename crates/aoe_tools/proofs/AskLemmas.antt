-- A request until its first response that counts.
use Rattle.std.proofs.Common.{ℕ, ◌≡◌, ◌-◌, List, [], ◌∷◌, length, take, drop, Option, Some, None, refl, ap, ◌∙◌}
use Rattle.std.proofs.lemmas.List.{take_rest}
use Rattle.std.specs.Prelude.{Result, Ok, Err, IfErr, IfOk}
use Rattle.arrayvec.specs.ArrayVec.{ArrayVec}
use Rattle.aoe_base.specs.declared.failure.Failed.{Failed}
use Rattle.aoe_tools.proofs.OneLemmas.{heard-none, heard-one, not-done}
use Rattle.aoe_tools.specs.Asking.{Response, responses}
use Rattle.aoe_tools.specs.Listening.{Listens, begun}
use Rattle.aoe_tools.specs.One.{args_of, refusal_of, said, unless_refused, AsksOne, Ends}
use Rattle.aoe_tools.specs.LookUp.{answered, unless_refusing, with_args, AskEnds, Asks, LinkState}
use Rattle.aoe_tools.specs.declared.end.Refusal.{Refusal}
use Rattle.aoe_tools.specs.declared.end.ToolRefusal.{ToolRefusal}
use Rattle.aoe_tools.specs.declared.end.ToolRefusal.TheVariants as tool
use Rattle.aoe_tools.specs.declared.question.Question.{Question}
use Rattle.aoe_tools.specs.declared.question.Reply.{Reply}
use Rattle.aoe_tools.specs.declared.wait.Wait.{Wait}

module _ {q : Question} {request : List ℕ} {limit : ℕ} {now : Wait} {frame : List ℕ} {before after : LinkState} where
  pub asks-unanswered : Listens (Ok None) q request limit begun now frame before.turns after.turns before.given after.given before.taken after.taken
      → Asks (Err (tool.Unanswered limit)) q request limit before after
  asks-unanswered l =
      let h = heard-none l in
      record { turns = h.turns; turned = h.turned; goes_on = h.goes_on; ends = (h.done, rw h.says, h.took) }

  pub asks-failed : {e : Failed} → Listens (Err e) q request limit begun now frame before.turns after.turns before.given after.given before.taken after.taken
      → Asks (Err tool.LinkFault) q request limit before after
  asks-failed l =
      let open_yet = not-done l in
      record { turns = l.turns; turned = l.turned; goes_on = open_yet.1; ends = (open_yet.0, open_yet.2) }

  asks-answered : {r : Reply} (o : Option Refusal)
      → Listens (Ok (Some r)) q request limit begun now frame before.turns after.turns before.given after.given before.taken after.taken
      → refusal_of q.subject r.answer (drop 24 frame) ≡ o → Asks (unless_refusing o (record { reply = r; args = drop 24 frame })) q request limit before after
  asks-answered None l e =
      let h = heard-one l in
      record { turns = h.turns; turned = h.turned; goes_on = h.goes_on; ends = (h.done, rw (h.says, e), h.took) }
  asks-answered (Some refusal) l e =
      let h = heard-one l in
      record { turns = h.turns; turned = h.turned; goes_on = h.goes_on; ends = (h.done, rw (h.says, e), h.took) }

  -- a response, that may refuse
  pub asks-taken : {r : Reply} (result : Result Reply ToolRefusal) → Listens
      (Ok (Some r)) q request limit begun now frame before.turns after.turns before.given after.given before.taken after.taken
      → IfOk result (λ x. (x ≡ r) × (refusal_of q.subject r.answer (drop 24 frame) ≡ None))
      → IfErr result (λ e. unless_refusing (refusal_of q.subject r.answer (drop 24 frame)) (record { reply = r; args = drop 24 frame }) ≡ Err e)
      → Asks (with_args frame result) q request limit before after
  asks-taken (Ok x) l ok err = rw ok.0 (asks-answered None l ok.1)
  asks-taken {r} (Err e) l ok err = rw (← err) (asks-answered (refusal_of q.subject r.answer (drop 24 frame)) l refl)

-- what the tool says that asks one thing
abbrev pub args_by : Result Response ToolRefusal → Result (ArrayVec ℕ) ToolRefusal
args_by (Ok r) = Ok (args_of r)
args_by (Err e) = Err e

said-by : (q : Question) (limit : ℕ) (rs : List Response) → args_by (answered q limit rs) ≡ said q limit rs
said-by q limit [] = refl
said-by q limit (r ∷ rs) =
    elim (refusal_of q.subject r.reply.answer r.args) as
    (λ o. args_by (unless_refusing o r) ≡ unless_refused o (args_of r)) [ None ↦ refl | Some refusal ↦ refl ]

pub asks-one : {q : Question} {request : List ℕ} {limit : ℕ} {before after : LinkState} (result : Result Response ToolRefusal)
    → Asks result q request limit before after
    → AsksOne (args_by result) q request limit before.turns after.turns before.given after.given before.taken after.taken
asks-one {q} {request} {limit} {before} {after} result a = record { turns = a.turns; turned = a.turned; goes_on = a.goes_on; ends = by result a.ends }
  where
    by : (x : Result Response ToolRefusal) → AskEnds x q request limit a.turns before.taken after.taken
        → Ends (args_by x) q request limit a.turns before.taken after.taken
    by (Err tool.LinkFault) e = e
    by _ e = (e.0, ap args_by e.1 ∙ said-by q limit (responses q a.turns), e.2)

-- a question, a request and its turns by what they are
pub asked-as : {r : Result Response ToolRefusal} {q q' : Question} {request request' : List ℕ} {limit limit' : ℕ} {before after : LinkState} → q ≡ q'
    → request ≡ request'
    → limit ≡ limit'
    → Asks r q request limit before after → Asks r q' request' limit' before after
asked-as same frame turns a = rw (← same, ← frame, ← turns) a

-- the bytes behind a header
pub behind : {xs ys : List ℕ} → xs ≡ ys → take (length xs - 24) (drop 24 xs) ≡ drop 24 ys
behind {xs} e = take_rest xs 24 ∙ ap (drop 24) e
