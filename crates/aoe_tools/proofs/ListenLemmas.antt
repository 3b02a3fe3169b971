-- The turns of a request, one by one.
use Rattle.std.proofs.Common.{ℕ, ◌≡◌, ◌≤◌, ◌<◌, List, [], ◌∷◌, Option, Some, None, refl, ap, ◌∙◌, arith, inl, inr}
use Rattle.std.specs.Prelude.{◌⊎◌, Ok, Err}
use Rattle.aoe_base.specs.declared.failure.Failed.{Failed}
use Rattle.aoe_io.proofs.LinkLemmas.{Added-then, turned-then}
use Rattle.aoe_io.specs.Link.{Added, Turn, Turned}
use Rattle.aoe_tools.specs.Asking.{responses}
use Rattle.aoe_tools.specs.Listening.{LastsFrom, Listens, TakesTurn, Waits, after_turn, after_turns, asked_by, asked_from, left}
use Rattle.aoe_tools.specs.Waiting.{TookFront}
use Rattle.aoe_tools.specs.declared.question.Question.{Question}
use Rattle.aoe_tools.specs.declared.question.Reply.{Reply}
use Rattle.aoe_tools.specs.declared.wait.Wait.{Wait}
use Rattle.aoe_tools.proofs.WaitLemmas.{left-less, within-still}

abbrev pub Frames : Type 0
Frames = List (List ℕ)

pub added-nothing : {A : Type 0} (a : Option (List A)) → Added a a []
added-nothing None = refl
added-nothing (Some l) = refl

-- so far no turn brought a response that counts
pub record SoFar (q : Question) (request : List ℕ) (limit : ℕ) (from now : Wait) (start turned' : ℕ) (given given' : Option (List Turn))
    (taken taken' : Option Frames) : Type 0 where
  pub turns : List Turn
  pub turned : Turned start turned' given given' turns
  pub passed : now ≡ after_turns from turns
  pub lasts : LastsFrom limit from turns
  pub left_most : left limit now ≤ left limit from
  pub silent : responses q turns ≡ []
  pub took : Added taken taken' (asked_from request from turns)

module _ {q : Question} {request : List ℕ} {limit : ℕ} {from now : Wait} {start mid : ℕ} {given given' : Option (List Turn)}
    {taken taken' : Option Frames} (s : SoFar q request limit from now start mid given given' taken taken') where
  took-more : (taken'' : Option Frames) (t : Turn) → Added taken' taken'' (asked_by request now)
      → Added taken taken'' (asked_from request from (t ∷ s.turns))
  took-more taken'' t took =
      Added-then taken taken' taken'' (asked_from request from s.turns) (asked_by request (after_turns from s.turns)) s.took (rw s.passed at took)

  module _ {next : Wait} {last : ℕ} {given'' : Option (List Turn)} {taken'' : Option Frames} {frame : List ℕ} (below : now.turns < limit) where
    pub goes-on : TakesTurn (Ok None) q request now next frame mid last given' given'' taken' taken''
        → SoFar q request limit from next start last given given'' taken taken'' × (left limit next < left limit now) × (next.turns ≤ limit)
    goes-on one =
        let (t, is, silent, then, took) = one.brings in
        let less : left limit next < left limit now = rw then (left-less limit now t below) in (
          record {
            turns = t ∷ s.turns;
            turned = turned-then start mid last given given' given'' s.turns (t ∷ []) s.turned (rw is at one.turned);
            passed = then ∙ ap (λ w. after_turn w t) s.passed;
            lasts = rw s.passed at below;
            left_most = omega (arith, less, s.left_most);
            silent = rw silent s.silent;
            took = took-more taken'' t took;
          },
          less,
          rw then (within-still limit now t below),
        )

    pub ends-with : {r : Reply} → TakesTurn (Ok (Some r)) q request now next frame mid last given' given'' taken' taken''
        → Listens (Ok (Some r)) q request limit from next frame start last given given'' taken taken'' × (next.turns ≤ limit)
    ends-with one =
        let (t, is, brought, then, took) = one.brings in
        let less : left limit next < left limit now = rw then (left-less limit now t below) in (
          record {
            turns = t ∷ s.turns;
            turned = turned-then start mid last given given' given'' s.turns (t ∷ []) s.turned (rw is at one.turned);
            passed = then ∙ ap (λ w. after_turn w t) s.passed;
            lasts = rw s.passed at below;
            waits = (brought, s.silent, omega (arith, less, s.left_most), took-more taken'' t took);
          },
          rw then (within-still limit now t below),
        )

    pub fails : {failed : Failed} → TakesTurn (Err failed) q request now next frame mid last given' given'' taken' taken''
        → Listens (Err failed) q request limit from next frame start last given given'' taken taken'' × (next.turns ≤ limit)
    fails {failed} one =
        let still = one.brings.1 in (
          record {
            turns = s.turns;
            turned = turned-then start mid last given given' given'' s.turns [] s.turned (rw one.brings.0 at one.turned);
            passed = still ∙ s.passed;
            lasts = s.lasts;
            waits = (s.silent, rw still below, rw still (took-some one.brings.2));
          },
          rw still (omega (arith, below)),
        )
      where
        took-some : (taken'' ≡ taken') ⊎ Added taken' taken'' (asked_by request now)
            → TookFront (asked_by request now) (asked_from request from s.turns) taken taken''
        took-some (inl same) = inl (rw same s.took)
        took-some (inr took) =
            inr (Added-then taken taken' taken'' (asked_from request from s.turns) (asked_by request now) s.took took)

-- a request has fewer turns left once its response came
pub left-falls : {q : Question} {request : List ℕ} {limit : ℕ} {from now : Wait} {frame : List ℕ} {start last : ℕ} {given given' : Option (List Turn)}
    {taken taken' : Option Frames} {r : Reply} → Listens (Ok (Some r)) q request limit from now frame start last given given' taken taken'
    → left limit now < left limit from
left-falls {q} {request} {limit} {from} {now} {frame} {taken = taken} {taken'} {r} l = at l.turns l.waits
  where
    at : (turns : List Turn) → Waits (Ok (Some r)) q request limit from now frame turns taken taken' → left limit now < left limit from
    at [] waits = absurd waits
    at (t ∷ turns) waits = waits.2
