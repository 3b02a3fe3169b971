-- What each step changes of what a host did, and of what link and clock tell.
use Rattle.std.proofs.Common.{ℕ, ◌≡◌, ◌+◌, ◌≤◌, true, false, List, [], ◌∷◌, ◌++◌, length, map, max, reverse, Option, Some, None, refl, sym, ap, ◌∙◌, arith, inl, inr}
use Rattle.std.specs.Prelude.{All, Ok, Err, IfSome}
use Rattle.aoe_base.specs.declared.counted.Ticket.{Ticket}
use Rattle.aoe_flight.specs.Outstanding.{is_expired}
use Rattle.aoe_initiator.proofs.MatchLemmas.{same-then}
use Rattle.aoe_initiator.specs.declared.op.Op.{Op}
use Rattle.aoe_initiator.specs.declared.outcome.Done.{Done}
use Rattle.aoe_initiator.specs.Host.{Host, IsSame, Matches}
use Rattle.aoe_initiator.specs.HostLaw.{GaveUpInTurn}
use Rattle.aoe_initiator.specs.HostLog.{clock, commands, sent_of, Event}
use Rattle.aoe_initiator.specs.HostLog.Event.{Advances, Submits}
use Rattle.aoe_io.proofs.LinkLemmas.{Added-then, turned-then}
use Rattle.aoe_io.specs.Link.{Added, Turn}
use Rattle.aoe_block.specs.Exchange.{is_heard, Exchanges, Sends}
use Rattle.aoe_block.specs.Steps.{answers_of, asked, frames_of, has_ticked, log_of, open_of, outcomes, owns, ops, quiet_turns, sent_now, ticket_at, turns_of, AreSteps, Drives, GoesOn, HasSeen, Patience, Seen, Start, Step, Told}
use Rattle.aoe_block.specs.Steps.Step.{hears, own, sends, submits, ticks}
use Rattle.aoe_block.specs.Turns.{after_frames, after_tick, the_device, told_by, AreSent, AreTagged, GivesUp, Heard, Outgoing}
use Rattle.aoe_block.proofs.HostLemmas.{same-self}
use Rattle.aoe_block.proofs.OpenLemmas.{count_heard, open-ended, open-frames, open-heard}
use Rattle.aoe_block.proofs.TagLemmas.{tagged-gave-up, tagged-heard, tagged-submitted}

-- before the first step
pub drives-start : {A : Type 0} {b : Start} → Matches b.log b.host → AreTagged b.host.flight.last_tag b.log → Drives {A = A} b [] b.host
drives-start {b = b} m tags = record { same = same-self b.host; matches = m; last = omega arith; tags = tags }

-- a command was submitted
pub drives-submits : {A : Type 0} {b : Start} {steps : List (Step A)} {host host' : Host} {ticket : Ticket} (op : Op) → Drives b steps host
    → ((log : List Event) → Matches log host → Matches (Submits ticket the_device op ∷ log) host')
    → IsSame host host' → ticket.0 ≡ host.last_ticket + 1 → host'.last_ticket ≡ ticket.0 → host'.flight.last_tag ≡ host.flight.last_tag
    → Drives b (submits op ∷ steps) host'
drives-submits {b = b} {steps} {host} {host'} {ticket} op d matches same is last tag =
    let log = log_of b steps in
    let number : ticket.0 ≡ (ticket_at b (asked steps)).0 = omega (arith, is, d.last) in
    let own : ticket ≡ ticket_at b (asked steps) = ap (λ (n : ℕ). record { 0 = n }) number in
    record {
      same = same-then b.host host host' d.same same;
      matches = rw own at (matches log d.matches);
      last = omega (arith, last, number);
      tags = rw tag (tagged-submitted (ticket_at b (asked steps)) the_device op log d.tags);
    }

-- the job did something of its own
pub drives-own : {A : Type 0} {b : Start} {steps : List (Step A)} {host : Host} (a : A) → Drives b steps host → Drives b (own a ∷ steps) host
drives-own a d = record { same = d.same; matches = d.matches; last = d.last; tags = d.tags }

-- what an advance of the host does
pub record Advanced (host advanced : Host) (now : ℕ) : Type 0 where
  pub gives_up : (gave_up : List Done) × (advanced.waiting ≡ host.waiting ++ reverse gave_up)
      × ((log : List Event) → Matches log host → GaveUpInTurn host.dead advanced.clock (Advances (record { 0 = now }) ∷ log) gave_up
      × All (λ o. is_expired host.dead advanced.clock o ≡ false) (sent_of (commands (after_tick now gave_up log))) × Matches
      (after_tick now gave_up log) advanced)
  pub clock_is : advanced.clock ≡ max host.clock now
  pub same : IsSame host advanced
  pub last : advanced.last_ticket ≡ host.last_ticket
  pub tag : advanced.flight.last_tag ≡ host.flight.last_tag

pub told-then : (a b c : Option (List ℕ)) (xs : List ℕ) (n : ℕ) → Told a b xs → IfSome c (λ all. Added b c (n ∷ [])) → Told a c (n ∷ xs)
told-then a b None xs n first second = tt
told-then a None (Some l) xs n first second = absurd cc
told-then a (Some k) (Some l) xs n first second = Added-then a (Some k) (Some l) xs (n ∷ []) first second

module _ {A : Type 0} {b : Start} {steps : List (Step A)} {host advanced : Host} {now : ℕ} (a : Advanced host advanced now) (d : Drives b steps host) where
  pub ticks-gives-up : GivesUp b.host (log_of b steps) now a.gives_up.0
  ticks-gives-up =
      let log = log_of b steps in
      let time : advanced.clock ≡ clock (Advances (record { 0 = now }) ∷ log) = rw (a.clock_is, d.matches.time) refl in
      let g = a.gives_up.2 log d.matches in
      record { in_turn = rw (time, d.same.dead) at g.0; all = rw (time, d.same.dead) at g.1 }

  pub drives-ticks : Drives b (ticks now a.gives_up.0 ∷ steps) advanced
  drives-ticks =
      let log = log_of b steps in
      record {
        same = same-then b.host host advanced d.same a.same;
        matches = (a.gives_up.2 log d.matches).2;
        last = a.last ∙ d.last;
        tags = rw a.tag (tagged-gave-up a.gives_up.0 (Advances (record { 0 = now }) ∷ log) d.tags);
      }

  pub ticks-open : open_of b (ticks now a.gives_up.0 ∷ steps) ≤ open_of b steps
  ticks-open = open-ended a.gives_up.0 (Advances (record { 0 = now }) ∷ log_of b steps)

pub seen-ticks : {A : Type 0} {before now : Seen} {steps : List (Step A)} {later : Option (List ℕ)} {answer : ℕ} (gave_up : List Done)
    → HasSeen before now steps → IfSome later (λ all. Added now.answers later (answer ∷ []))
    → HasSeen before (record now { answers = later }) (ticks answer gave_up ∷ steps)
seen-ticks {before = before} {now} {steps} {later} {answer} gave_up s told = record {
  turned = s.turned;
  took = s.took;
  told = told-then before.answers now.answers later (answers_of steps) answer s.told told;
}

-- steps of which link and clock tell nothing
pub seen-submits : {A : Type 0} {before now : Seen} {steps : List (Step A)} (op : Op) → HasSeen before now steps → HasSeen before now (submits op ∷ steps)
seen-submits op s = record { turned = s.turned; took = s.took; told = s.told }

pub seen-own : {A : Type 0} {before now : Seen} {steps : List (Step A)} (a : A) → HasSeen before now steps → HasSeen before now (own a ∷ steps)
seen-own a s = record { turned = s.turned; took = s.took; told = s.told }

-- frames were sent, the latest first
abbrev pub after_sends : {A : Type 0} → List Outgoing → List (Step A) → List (Step A)
after_sends [] steps = steps
after_sends (o ∷ earlier) steps = sends o ∷ after_sends earlier steps

-- what they don't change
pub record Alike {A : Type 0} (b : Start) (sent : List Outgoing) (steps steps' : List (Step A)) : Type 0 where
  pub outcomes_are : outcomes steps' ≡ outcomes steps
  pub asked_is : asked steps' ≡ asked steps
  pub ops_are : ops steps' ≡ ops steps
  pub owns_are : owns steps' ≡ owns steps
  pub turns_are : turns_of steps' ≡ turns_of steps
  pub answers_are : answers_of steps' ≡ answers_of steps
  pub quiet_is : quiet_turns steps' ≡ quiet_turns steps
  pub ticked_is : has_ticked steps' ≡ has_ticked steps
  pub log_is : log_of b steps' ≡ after_frames sent (log_of b steps)
  pub frames_are : frames_of steps' ≡ map (λ o. o.frame) sent ++ frames_of steps
  pub sent_is : sent_now steps' ≡ length sent + sent_now steps

pub alike : {A : Type 0} (b : Start) (sent : List Outgoing) (steps : List (Step A)) → Alike b sent steps (after_sends sent steps)
alike b [] steps = record {
  outcomes_are = refl;
  asked_is = refl;
  ops_are = refl;
  owns_are = refl;
  turns_are = refl;
  answers_are = refl;
  quiet_is = refl;
  ticked_is = refl;
  log_is = refl;
  frames_are = refl;
  sent_is = omega arith;
}
alike b (o ∷ earlier) steps =
    let a = alike b earlier steps in
    record {
      outcomes_are = a.outcomes_are;
      asked_is = a.asked_is;
      ops_are = a.ops_are;
      owns_are = a.owns_are;
      turns_are = a.turns_are;
      answers_are = a.answers_are;
      quiet_is = a.quiet_is;
      ticked_is = a.ticked_is;
      log_is = rw a.log_is refl;
      frames_are = ap (λ (l : List (List ℕ)). o.frame ∷ l) a.frames_are;
      sent_is = omega (arith, a.sent_is);
    }

pub are-sends : {A : Type 0} (law : List (Step A) → Step A → Type 0) (b : Start) (w : Patience) (steps : List (Step A)) → GoesOn steps
    → has_ticked steps ≡ true → (sent : List Outgoing) → AreSteps law b w steps → AreSent b.host (log_of b steps) sent
    → AreSteps law b w (after_sends sent steps)
are-sends law b w steps well ticked [] are all = are
are-sends law b w steps well ticked (o ∷ earlier) are all =
    let a = alike b earlier steps in
    (are-sends law b w steps well ticked earlier are all.0, (rw a.outcomes_are well, a.ticked_is ∙ ticked, rw a.log_is all.1))

-- frames were sent
pub seen-sends : {A : Type 0} {before now : Seen} {steps : List (Step A)} (b : Start) (sent : List Outgoing) {taken : Option (List (List ℕ))}
    → HasSeen before now steps → Added now.taken taken (map (λ o. o.frame) sent)
    → HasSeen before (record now { taken = taken }) (after_sends sent steps)
seen-sends {before = before} {now} {steps} b sent {taken} s took =
    let a = alike b sent steps in
    record {
      turned = rw a.turns_are s.turned;
      took = rw a.frames_are (Added-then before.taken now.taken taken (frames_of steps) (map (λ o. o.frame) sent) s.took took);
      told = rw a.answers_are s.told;
    }

pub drives-sends : {A : Type 0} {b : Start} {steps : List (Step A)} {host host' : Host} {before after : Option (List (List ℕ))}
    (s : Sends host host' before after) → Drives b steps host → Drives b (after_sends s.sent steps) host'
drives-sends {b = b} {steps} {host} {host'} s d =
    let a = alike b s.sent steps in
    let l = s.law b.host (log_of b steps) d.same d.matches d.tags in
    record {
      same = same-then b.host host host' d.same s.held.same;
      matches = rw a.log_is l.1;
      last = s.held.last ∙ d.last ∙ ap (λ (n : ℕ). b.host.last_ticket + n) (sym a.asked_is);
      tags = rw a.log_is l.2;
    }

-- a whole second part of a turn
pub record Exchanged {A : Type 0} (law : List (Step A) → Step A → Type 0) (b : Start) (w : Patience) (before now : Seen) (steps : List (Step A))
    (host host' : Host) (heard : Option Heard) : Type 0 where
  pub sent : List Outgoing
  pub turn : Turn
  pub are : AreSteps law b w (hears turn heard ∷ after_sends sent steps)
  pub seen_is : HasSeen before now (hears turn heard ∷ after_sends sent steps)
  pub drives : Drives b (hears turn heard ∷ after_sends sent steps) host'
  pub waiting : host'.waiting ≡ host.waiting ++ told_by heard
  pub outcomes_are : outcomes (hears turn heard ∷ after_sends sent steps) ≡ told_by heard ++ outcomes steps
  pub fewer : open_of b (hears turn heard ∷ after_sends sent steps) + count_heard heard ≤ open_of b steps

-- one in which the link failed
pub record Broken {A : Type 0} (law : List (Step A) → Step A → Type 0) (b : Start) (w : Patience) (before now : Seen) (steps : List (Step A)) : Type 0 where
  pub sent : List Outgoing
  pub are : AreSteps law b w (after_sends sent steps)
  pub seen_is : HasSeen before now (after_sends sent steps)

-- what link and clock tell after it
abbrev pub seen_at : Seen → ℕ → Option (List Turn) → Option (List (List ℕ)) → Seen
seen_at seen turned given taken = record seen { turns = turned; given = given; taken = taken }

module _ {A : Type 0} (law : List (Step A) → Step A → Type 0) {b : Start} (w : Patience) {before seen : Seen} {steps : List (Step A)} {host : Host} (host' : Host)
    {turned' : ℕ} {given' : Option (List Turn)} {taken' : Option (List (List ℕ))}
    (are : AreSteps law b w steps) (s : HasSeen before seen steps) (d : Drives b steps host) (well : GoesOn steps) (ticked : has_ticked steps ≡ true) where
  pub exchanged : {finished : _} (may : (sent : List Outgoing) (turn : Turn) (heard : Option Heard) → law (after_sends sent steps) (hears turn heard))
      → Exchanges (Ok finished) w.most host host' seen.turns turned' seen.given given' seen.taken taken'
      → (heard : Option Heard) × Exchanged law b w before (seen_at seen turned' given' taken') steps host host' heard × (finished ≡ is_heard heard)
  exchanged may (mid, all, one) =
      let sends = all.sends in
      let a = alike b sends.sent steps in
      let log = log_of b steps in
      let law_is = sends.law b.host log d.same d.matches d.tags in
      let driven = drives-sends sends d in
      let h = one.hears b.host (after_frames sends.sent log) (same-then b.host host mid d.same sends.held.same) law_is.1 in
      let heard = h.0 in
      let seen_so = seen-sends b sends.sent s sends.took in
      let out = all.all b.host log d.same d.matches d.tags in (
        heard,
        record {
          sent = sends.sent;
          turn = one.brought;
          are = (
            are-sends law b w steps well ticked sends.sent are law_is.0,
            (
              rw a.outcomes_are well,
              a.ticked_is ∙ ticked,
              may sends.sent one.brought heard,
              elim out [ inl silent ↦ inl (rw a.log_is silent) | inr full ↦ inr (omega (arith, a.sent_is, full)) ],
              rw a.log_is h.1,
            ),
          );
          seen_is = record {
            turned = turned-then before.turns seen.turns turned' before.given seen.given given' (turns_of (after_sends sends.sent steps)) (one.brought ∷ [])
                seen_so.turned one.turned_by;
            took = seen_so.took;
            told = seen_so.told;
          };
          drives = record {
            same = same-then b.host mid host' driven.same one.held.same;
            matches = rw a.log_is h.2;
            last = one.held.last ∙ driven.last;
            tags = rw one.tag (tagged-heard heard (log_of b (after_sends sends.sent steps)) driven.tags);
          };
          waiting = h.3 ∙ ap (λ (l : List Done). l ++ told_by heard) sends.waiting;
          outcomes_are = ap (λ (l : List Done). told_by heard ++ l) a.outcomes_are;
          fewer = rw a.log_is (omega (arith, open-heard b.host (after_frames sends.sent log) one.brought heard h.1, open-frames sends.sent log));
        },
        h.4,
      )

  pub broken : {failed : _} → Exchanges (Err failed) w.most host host' seen.turns turned' seen.given given' seen.taken taken'
      → Broken law b w before (seen_at seen turned' given' taken') steps
  broken (mid, out, unused) =
      let law_is = out.law b.host (log_of b steps) d.same d.matches d.tags in
      record {
        sent = out.sent;
        are = are-sends law b w steps well ticked out.sent are law_is.0;
        seen_is = rw (unused.turns, unused.given_is) (seen-sends b out.sent s out.took);
      }
