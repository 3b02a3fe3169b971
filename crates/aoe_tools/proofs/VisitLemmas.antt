-- The devices are asked for their pages, one after the other.
use Rattle.std.proofs.Common.{ℕ, ◌≡◌, ◌≤◌, ◌+◌, List, [], ◌∷◌, ◌++◌, append_assoc, drop, length, length-append, Option, Some, refl, sym, ap, ◌∙◌, arith}
use Rattle.std.proofs.lemmas.List.{append-nil, nil_from_length}
use Rattle.std.proofs.lemmas.Option.{same_Some}
use Rattle.std.specs.Prelude.{Ok, Err, slice_get, slice_set}
use Rattle.aoe_base.specs.declared.address.Mac.{Mac}
use Rattle.aoe_base.specs.declared.failure.Failed.{Failed}
use Rattle.aoe_initiator.specs.Request.{request}
use Rattle.aoe_initiator.specs.declared.op.FlushCommand.TheVariants.{CacheExt}
use Rattle.aoe_initiator.specs.declared.op.Op.TheVariants as op
use Rattle.aoe_io.proofs.LinkLemmas.{Added-then, turned-then}
use Rattle.aoe_io.specs.Link.{Added, Turn, Turned}
use Rattle.aoe_tools.specs.Asking.{Response}
use Rattle.aoe_tools.specs.Listening.{Listens, begun}
use Rattle.aoe_tools.specs.Page.{known, with_known}
use Rattle.aoe_tools.specs.Visits.{AreOver, AsksPage, Visit, VisitsAll, VisitsOne, devices, first_port, learned, page_question, request_of, visit_asked, visit_turns}
use Rattle.aoe_tools.specs.Waiting.{asked, asked_at}
use Rattle.aoe_tools.specs.declared.found.Known.{Known}
use Rattle.aoe_tools.specs.declared.found.Seen.{Seen}
use Rattle.aoe_tools.specs.declared.question.Question.{Question}
use Rattle.aoe_tools.specs.declared.wait.Wait.{Wait}
use Rattle.aoe_tools.proofs.ListenLemmas.{Frames}
use Rattle.aoe_tools.proofs.OneLemmas.{not-done, Heard}
use Rattle.aoe_tools.proofs.WaitLemmas.{front-then}

-- ---- one request

module _ {q : Question} {request : List ℕ} {limit start last : ℕ} {given given' : Option (List Turn)} {taken taken' : Option Frames} where
  pub page-heard : {came : List Response} {k : Known} → Heard q request limit start last given given' taken taken' came → k ≡ known came
      → AsksPage (Ok k) q request limit start last given given' taken taken'
  page-heard h is = record { turns = h.turns; turned = h.turned; ends = ((h.done, h.goes_on), rw h.says is, h.took) }

  pub page-failed : {now : Wait} {frame : List ℕ} {e : Failed} → Listens (Err e) q request limit begun now frame start last given given' taken taken'
      → AsksPage (Err e) q request limit start last given given' taken taken'
  page-failed l =
      let open_yet = not-done l in
      record { turns = l.turns; turned = l.turned; ends = ((open_yet.0, open_yet.1), open_yet.2) }

-- ---- one device

module _ {first : ℕ} {port : Mac} {limit i : ℕ} {found found' : List Seen} {start last : ℕ} {given given' : Option (List Turn)} {taken taken' : Option Frames}
    {s : Seen} {q : Question} {bytes : List ℕ}
    (at : slice_get found i ≡ Some s) (q_is : q ≡ page_question first port (i + 1) s)
    (bytes_are : bytes ≡ request CacheExt op.Identify s.id (first_port s.ports.items) port q.tag) where
  pub visited : {k : Known} {x : Seen} → slice_get found i ≡ Some x → found' ≡ slice_set found i (with_known x k)
      → AsksPage (Ok k) q bytes limit start last given given' taken taken'
      → VisitsOne (Ok tt) first port limit i found found' start last given given' taken taken'
  visited {k} {x} at_x is asks =
      let a = rw (bytes_are, q_is) at asks in
      let same : x ≡ s = same_Some _ _ (sym at_x ∙ at) in
      record { visit = record { device = s; turns = a.turns }; at = at; turned = a.turned; ends = (a.ends.0, rw (same, a.ends.1) at is, a.ends.2) }

  pub visit-failed : {e : Failed} → AsksPage (Err e) q bytes limit start last given given' taken taken'
      → VisitsOne (Err e) first port limit i found found' start last given given' taken taken'
  visit-failed asks =
      let a = rw (bytes_are, q_is) at asks in
      record { visit = record { device = s; turns = a.turns }; at = at; turned = a.turned; ends = a.ends }

-- ---- all of them

at-rest : (done rest : List Seen) (s : Seen) → slice_get (done ++ rest) (length done) ≡ Some s → rest ≡ s ∷ drop 1 rest
at-rest [] [] s is = absurd cc
at-rest [] (x ∷ rest) s is = ap (λ y. y ∷ rest) (same_Some x s is)
at-rest (d ∷ done) rest s is = at-rest done rest s is

set-rest : (done rest : List Seen) (i : ℕ) (s x : Seen) → i ≡ length done → slice_set (done ++ s ∷ rest) i x ≡ done ++ x ∷ rest
set-rest [] rest i s x e = rw e
set-rest (d ∷ done) rest i s x e = rw e (ap (λ l. d ∷ l) (set-rest done rest (length done) s x refl))

length-learned : (first : ℕ) (port : Mac) (visits : List Visit) → length (learned first port visits) ≡ length visits
length-learned first port [] = refl
length-learned first port (v ∷ earlier) = omega (arith, length-append {A = Seen}, length-learned first port earlier)

length-devices : (visits : List Visit) → length (devices visits) ≡ length visits
length-devices [] = refl
length-devices (v ∷ earlier) = omega (arith, length-append {A = Seen}, length-devices earlier)

-- so many devices were visited
pub record Visiting (first : ℕ) (port : Mac) (limit i : ℕ) (found now : List Seen) (start turned' : ℕ) (given given' : Option (List Turn))
    (taken taken' : Option Frames) : Type 0 where
  pub visits : List Visit
  pub rest : List Seen
  pub turned : Turned start turned' given given' (visit_turns visits)
  pub count : i ≡ length visits
  pub found_is : found ≡ devices visits ++ rest
  pub now_is : now ≡ learned first port visits ++ rest
  pub over : AreOver first port limit visits
  pub took : Added taken taken' (visit_asked first port visits)

module _ {first : ℕ} {port : Mac} {limit i : ℕ} {found now : List Seen} {start mid : ℕ} {given given' : Option (List Turn)} {taken taken' : Option Frames}
    (s : Visiting first port limit i found now start mid given given' taken taken') where
  -- there are as many devices as before
  pub count-stays : length now ≡ length found
  count-stays = omega (arith, ap length s.now_is, ap length s.found_is, length-append {A = Seen}, length-learned first port s.visits, length-devices s.visits)

  -- all were visited
  pub ends : length found ≤ i → VisitsAll (Ok tt) first port limit found now start mid given given' taken taken'
  ends all =
      let empty : length s.rest ≡ 0 = omega (arith, all, s.count, ap length s.found_is, length-append {A = Seen}, length-devices s.visits) in
      let none = nil_from_length s.rest empty in
      record { visits = s.visits; turned = s.turned; ends = (sym (rw (none, append-nil) at s.found_is), rw (none, append-nil) at s.now_is, s.over, s.took) }

  rest-is : (v : Visit) → slice_get now i ≡ Some v.device → s.rest ≡ v.device ∷ drop 1 s.rest
  rest-is v at = at-rest (learned first port s.visits) s.rest v.device (rw (s.now_is, s.count, ← (length-learned first port s.visits)) at at)

  found-on : (v : Visit) → slice_get now i ≡ Some v.device → found ≡ devices (v ∷ s.visits) ++ drop 1 s.rest
  found-on v at = rw append_assoc (rw (rest-is v at) at s.found_is)

  module _ {now' : List Seen} {last : ℕ} {given'' : Option (List Turn)} {taken'' : Option Frames} where
    pub goes-on : VisitsOne (Ok tt) first port limit i now now' mid last given' given'' taken' taken''
        → Visiting first port limit (i + 1) found now' start last given given'' taken taken''
    goes-on one =
        let v = one.visit in
        let now_is : now ≡ learned first port s.visits ++ v.device ∷ drop 1 s.rest = rw (rest-is v one.at) at s.now_is in
        let here = rw (now_is, s.count) at one.ends in
        record {
          visits = v ∷ s.visits;
          rest = drop 1 s.rest;
          turned = turned-then start mid last given given' given'' (visit_turns s.visits) v.turns s.turned one.turned;
          count = omega (arith, s.count);
          found_is = found-on v one.at;
          now_is = rw append_assoc (here.1 ∙ set-rest _ _ _ _ _ (sym (length-learned first port s.visits)));
          over = (here.0, s.over);
          took = Added-then taken taken' taken'' (visit_asked first port s.visits) (asked (request_of first port s.visits v) v.turns) s.took here.2;
        }

    pub fails : {e : Failed} → VisitsOne (Err e) first port limit i now now' mid last given' given'' taken' taken''
        → VisitsAll (Err e) first port limit found now' start last given given'' taken taken''
    fails one =
        let v = one.visit in
        let request = request_of first port s.visits v in
        let here = rw s.count at one.ends in
        record {
          visits = v ∷ s.visits;
          turned = turned-then start mid last given given' given'' (visit_turns s.visits) v.turns s.turned one.turned;
          ends = (
            (record { rest = drop 1 s.rest; is = found-on v one.at }, here.0, s.over),
            front-then taken taken' taken'' (visit_asked first port s.visits) (asked_at request v.turns) (asked request v.turns) s.took here.1,
          );
        }
