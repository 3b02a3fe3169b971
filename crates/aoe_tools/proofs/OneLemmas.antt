-- A request that waits for one response.
use Rattle.std.proofs.Common.{ℕ, ◌≡◌, ◌<◌, true, false, List, [], ◌∷◌, drop, Option, Some, None, ap, sym, ◌∙◌, arith}
use Rattle.std.proofs.lemmas.Bool.{eq-eqb, ne_eqb}
use Rattle.std.specs.Prelude.{Ok, Err}
use Rattle.aoe_base.specs.declared.failure.Failed.{Failed}
use Rattle.aoe_io.specs.Link.{Added, Turn, Turned}
use Rattle.aoe_tools.specs.Asking.{Response, brought, responses, with_response}
use Rattle.aoe_tools.specs.Listening.{Listens, Waits, begun}
use Rattle.aoe_tools.specs.One.{GoesOn, is_done}
use Rattle.aoe_tools.specs.Waiting.{Lasts, TookSome, asked, waited}
use Rattle.aoe_tools.specs.declared.question.Question.{Question}
use Rattle.aoe_tools.specs.declared.question.Reply.{Reply}
use Rattle.aoe_tools.specs.declared.wait.Wait.{Wait}
use Rattle.aoe_tools.proofs.ListenLemmas.{Frames}
use Rattle.aoe_tools.proofs.WaitLemmas.{asked-begun, begun-is, lasts-before, lasts-begun}

-- no response came, and there are more turns
waits-on : (q : Question) (limit : ℕ) (turns : List Turn) → responses q turns ≡ [] → waited turns < limit → is_done q limit turns ≡ false
waits-on q limit turns silent below = rw silent (ne_eqb (waited turns) limit (λ e. omega (arith, e, below)))

went-on : (q : Question) (limit : ℕ) (turns : List Turn) → responses q turns ≡ [] → Lasts limit turns → GoesOn q limit turns
went-on q limit [] silent lasts = tt
went-on q limit (t ∷ turns) silent lasts =
    let before = silent-before (brought q t) silent in
    (waits-on q limit turns before lasts, went-on q limit turns before (lasts-before limit turns lasts))
  where
    silent-before : (o : Option Response) → with_response o (responses q turns) ≡ [] → responses q turns ≡ []
    silent-before None e = e
    silent-before (Some r) e = absurd cc

-- what a request heard until it ended: these responses, of which there is one at most
pub record Heard (q : Question) (request : List ℕ) (limit start last : ℕ) (given given' : Option (List Turn)) (taken taken' : Option Frames)
    (came : List Response) : Type 0 where
  pub turns : List Turn
  pub turned : Turned start last given given' turns
  pub goes_on : GoesOn q limit turns
  pub done : is_done q limit turns ≡ true
  pub says : responses q turns ≡ came
  pub took : Added taken taken' (asked request turns)

module _ {q : Question} {request : List ℕ} {limit : ℕ} {now : Wait} {frame : List ℕ} {start last : ℕ} {given given' : Option (List Turn)}
    {taken taken' : Option Frames} where
  -- the link failed before it ended
  pub not-done : {e : Failed} (l : Listens (Err e) q request limit begun now frame start last given given' taken taken')
      → (is_done q limit l.turns ≡ false) × GoesOn q limit l.turns × TookSome request l.turns taken taken'
  not-done l =
      let is = begun-is l.turns l.passed in
      let below : waited l.turns < limit = rw is at l.waits.1 in (
        waits-on q limit l.turns l.waits.0 below,
        went-on q limit l.turns l.waits.0 (lasts-begun limit l.turns l.lasts),
        rw (is, asked-begun request l.turns) at l.waits.2,
      )

  pub heard-none : Listens (Ok None) q request limit begun now frame start last given given' taken taken'
      → Heard q request limit start last given given' taken taken' []
  heard-none l =
      let all : waited l.turns ≡ limit = sym (ap (λ w. w.turns) (begun-is l.turns l.passed)) ∙ l.waits.1 in
      record {
        turns = l.turns;
        turned = l.turned;
        goes_on = went-on q limit l.turns l.waits.0 (lasts-begun limit l.turns l.lasts);
        done = rw l.waits.0 (eq-eqb (waited l.turns) limit all);
        says = l.waits.0;
        took = rw (asked-begun request l.turns) at l.waits.2;
      }

  -- the last turn brought the response
  pub heard-one : {r : Reply} → Listens (Ok (Some r)) q request limit begun now frame start last given given' taken taken'
      → Heard q request limit start last given given' taken taken' (record { reply = r; args = drop 24 frame } ∷ [])
  heard-one {r} l = at l.turns l.turned (lasts-begun limit l.turns l.lasts) l.waits
    where
      at : (turns : List Turn) → Turned start last given given' turns → Lasts limit turns
          → Waits (Ok (Some r)) q request limit begun now frame turns taken taken'
          → Heard q request limit start last given given' taken taken' (record { reply = r; args = drop 24 frame } ∷ [])
      at [] turned lasts waits = absurd waits
      at (t ∷ turns) turned lasts waits = record {
        turns = t ∷ turns;
        turned = turned;
        goes_on = (waits-on q limit turns waits.1 lasts, went-on q limit turns waits.1 (lasts-before limit turns lasts));
        done = rw (waits.0, waits.1);
        says = rw (waits.0, waits.1);
        took = rw (asked-begun request (t ∷ turns)) at waits.3;
      }
