-- The turns of a request that goes on behind its responses.
use Rattle.std.proofs.Common.{ℕ, ◌≡◌, List, [], ◌∷◌, ◌++◌, drop, Option, Some, None, refl, sym, ap, ◌∙◌}
use Rattle.std.specs.Prelude.{Result, Ok, Err}
use Rattle.aoe_base.specs.declared.failure.Failed.{Failed}
use Rattle.aoe_io.proofs.LinkLemmas.{Added-then, turned-nothing, turned-then}
use Rattle.aoe_io.specs.Link.{Added, Turn, Turned}
use Rattle.aoe_tools.specs.Asking.{Response, brought, responses, with_response}
use Rattle.aoe_tools.specs.Discovery.{Discovers, Ends, discovered, unless_none}
use Rattle.aoe_tools.specs.Found.{found_in, noted}
use Rattle.aoe_tools.specs.Listening.{LastsFrom, Listens, Waits, after_turns, asked_from, begun}
use Rattle.aoe_tools.specs.One.{args_of}
use Rattle.aoe_tools.specs.Waiting.{Lasts, asked, asked_at, waited}
use Rattle.aoe_tools.specs.declared.end.ToolRefusal.{ToolRefusal}
use Rattle.aoe_tools.specs.declared.end.ToolRefusal.TheVariants as tool
use Rattle.aoe_tools.specs.declared.found.Seen.{Seen}
use Rattle.aoe_tools.specs.declared.question.Question.{Question}
use Rattle.aoe_tools.specs.declared.question.Reply.{Reply}
use Rattle.aoe_tools.specs.declared.wait.Wait.{Wait}
use Rattle.aoe_tools.proofs.ListenLemmas.{Frames, added-nothing}
use Rattle.aoe_tools.proofs.WaitLemmas.{asked-on, front-then, lasts-on, lasts-within, wait-on, wait_of}

with-then : (o : Option Response) (rs earlier : List Response) → with_response o (rs ++ earlier) ≡ with_response o rs ++ earlier
with-then None rs earlier = refl
with-then (Some r) rs earlier = refl

responses-then : (q : Question) (later turns : List Turn) → responses q (later ++ turns) ≡ responses q later ++ responses q turns
responses-then q [] turns = refl
responses-then q (t ∷ later) turns = ap (with_response (brought q t)) (responses-then q later turns)
    ∙ with-then (brought q t) (responses q later) (responses q turns)

-- so long it has waited, and these devices have answered
pub record Finds (q : Question) (request : List ℕ) (limit : ℕ) (now : Wait) (found : List Seen) (start turned' : ℕ)
    (given given' : Option (List Turn)) (taken taken' : Option Frames) : Type 0 where
  pub turns : List Turn
  pub turned : Turned start turned' given given' turns
  pub passed : now ≡ wait_of turns
  pub lasts : Lasts limit turns
  pub found_is : found ≡ found_in (responses q turns)
  pub took : Added taken taken' (asked request turns)

pub begins : {q : Question} {request : List ℕ} {limit : ℕ} {now : Wait} {found : List Seen} {start : ℕ} {given : Option (List Turn)}
    {taken : Option Frames} → now ≡ begun → found ≡ [] → Finds q request limit now found start start given given taken taken
begins {start = start} {given} {taken} is none = record {
  turns = [];
  turned = turned-nothing start given;
  passed = is;
  lasts = tt;
  found_is = none;
  took = added-nothing taken;
}

module _ {q : Question} {request : List ℕ} {limit : ℕ} {now : Wait} {found : List Seen} {start mid : ℕ} {given given' : Option (List Turn)}
    {taken taken' : Option Frames} (s : Finds q request limit now found start mid given given' taken taken') where
  took-turns : (taken'' : Option Frames) (later : List Turn) → Added taken' taken'' (asked_from request now later)
      → Added taken taken'' (asked request (later ++ s.turns))
  took-turns taken'' later took =
      rw (asked-on request later s.turns)
      (Added-then taken taken' taken'' (asked request s.turns) (asked_from request (wait_of s.turns) later) s.took (rw s.passed at took))

  then-is : {then : Wait} (later : List Turn) → then ≡ after_turns now later → then ≡ wait_of (later ++ s.turns)
  then-is later passed = passed ∙ ap (λ w. after_turns w later) s.passed ∙ wait-on later s.turns

  module _ {then : Wait} {last : ℕ} {frame : List ℕ} {given'' : Option (List Turn)} {taken'' : Option Frames} where
    -- nobody answers any more
    pub ends : {result : Result (List Seen) ToolRefusal} → result ≡ unless_none limit found
        → Listens (Ok None) q request limit now then frame mid last given' given'' taken' taken''
        → Discovers result q request limit start last given given'' taken taken''
    ends {result} is l = record {
      turns = turns;
      turned = turned-then start mid last given given' given'' s.turns l.turns s.turned l.turned;
      lasts = lasts-on limit l.turns s.turns s.passed s.lasts l.lasts;
      ends = by found is;
    }
      where
        turns : List Turn
        turns = l.turns ++ s.turns

        says : result ≡ discovered limit (responses q turns)
        says = rw (responses-then q l.turns s.turns, l.waits.0) (is ∙ ap (unless_none limit) s.found_is)

        all : waited turns ≡ limit
        all = sym (ap (λ w. w.turns) (then-is l.turns l.passed)) ∙ l.waits.1

        by : (list : List Seen) → result ≡ unless_none limit list → Ends result q request limit turns taken taken''
        by [] e = rw e (all, sym e ∙ says, took-turns taken'' l.turns l.waits.2)
        by (d ∷ list) e = rw e (all, sym e ∙ says, took-turns taken'' l.turns l.waits.2)

    -- the link failed
    pub fails : {e : Failed} → Listens (Err e) q request limit now then frame mid last given' given'' taken' taken''
        → Discovers (Err tool.LinkFault) q request limit start last given given'' taken taken''
    fails l =
        let is = then-is l.turns l.passed in
        record {
          turns = l.turns ++ s.turns;
          turned = turned-then start mid last given given' given'' s.turns l.turns s.turned l.turned;
          lasts = lasts-on limit l.turns s.turns s.passed s.lasts l.lasts;
          ends = (
            rw is at l.waits.1,
            rw (asked-on request l.turns s.turns)
                (front-then taken taken' taken'' (asked request s.turns) (asked_at request (l.turns ++ s.turns)) (asked_from request (wait_of s.turns) l.turns)
                s.took (rw s.passed at (rw is at l.waits.2))),
          );
        }

    -- the next device that answers is noted
    pub goes-on : {r : Reply} {found' : List Seen} → found' ≡ noted found r.id r.source (args_of (record { reply = r; args = drop 24 frame }))
        → Listens (Ok (Some r)) q request limit now then frame mid last given' given'' taken' taken''
        → Finds q request limit then found' start last given given'' taken taken''
    goes-on {r} {found'} is l = at l.turns l.turned l.passed l.lasts l.waits
      where
        at : (later : List Turn) → Turned mid last given' given'' later → then ≡ after_turns now later → LastsFrom limit now later
            → Waits (Ok (Some r)) q request limit now then frame later taken' taken''
            → Finds q request limit then found' start last given given'' taken taken''
        at [] turned passed lasts waits = absurd waits
        at (t ∷ later) turned passed lasts waits = record {
          turns = (t ∷ later) ++ s.turns;
          turned = turned-then start mid last given given' given'' s.turns (t ∷ later) s.turned turned;
          passed = then-is (t ∷ later) passed;
          lasts = lasts-on limit (t ∷ later) s.turns s.passed s.lasts lasts;
          found_is = rw (waits.0, responses-then q later s.turns, waits.1) (rw s.found_is at is);
          took = took-turns taken'' (t ∷ later) waits.3;
        }

    -- there is no memory for it
    pub forgets : {r : Reply} → Listens (Ok (Some r)) q request limit now then frame mid last given' given'' taken' taken''
        → Discovers (Err tool.NoMemory) q request limit start last given given'' taken taken''
    forgets {r} l = at l.turns l.turned l.lasts l.waits
      where
        at : (later : List Turn) → Turned mid last given' given'' later → LastsFrom limit now later
            → Waits (Ok (Some r)) q request limit now then frame later taken' taken''
            → Discovers (Err tool.NoMemory) q request limit start last given given'' taken taken''
        at [] turned lasts waits = absurd waits
        at (t ∷ later) turned lasts waits =
            let whole = lasts-on limit (t ∷ later) s.turns s.passed s.lasts lasts in
            record {
              turns = (t ∷ later) ++ s.turns;
              turned = turned-then start mid last given given' given'' s.turns (t ∷ later) s.turned turned;
              lasts = whole;
              ends = (lasts-within limit ((t ∷ later) ++ s.turns) whole, rw waits.0 refl, took-turns taken'' (t ∷ later) waits.3);
            }
