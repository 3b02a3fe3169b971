-- What the host of a server does: the clock is looked at, frames go out and come in.
use Rattle.std.proofs.Common.{ℕ, ◌≡◌, ◌+◌, ◌<◌, Bool, true, false, List, [], ◌∷◌, ◌++◌, length, reverse, Option, Some, None, refl, sym, ap, ◌∙◌, arith, append_assoc}
use Rattle.std.specs.Prelude.{IfOk, IfSome, OnErr, Result, Ok, Err}
use Rattle.std.proofs.lemmas.List.{append-nil, reverse-append, reverse-reverse}
use Rattle.aoe_base.specs.declared.failure.Failed.{Failed}
use Rattle.aoe_block.specs.Exchange.{HearsOne, IsUnused, Sends}
use Rattle.aoe_block.specs.Steps.{answers_of, log_of, outcomes, owns, turns_of}
use Rattle.aoe_block.specs.Steps.Step.{hears, sends, ticks}
use Rattle.aoe_block.specs.Turns.{told_by, Heard, Outgoing}
use Rattle.aoe_block.proofs.StepLemmas.{drives-sends, drives-ticks, seen-sends, seen-ticks, ticks-gives-up, Advanced}
use Rattle.aoe_block.proofs.TagLemmas.{tagged-heard}
use Rattle.aoe_initiator.proofs.MatchLemmas.{same-then}
use Rattle.aoe_initiator.specs.declared.outcome.Done.{Done}
use Rattle.aoe_io.proofs.LinkLemmas.{turned-then}
use Rattle.aoe_io.specs.Link.{Added, ended, Turn}
use Rattle.aoe_io.specs.declared.links.Got.{Got}
use Rattle.aoe_io.specs.declared.links.Got.TheVariants as got
use Rattle.aoe_nbd_serve.specs.Account.{ServeSeen, ServeStep, Setting}
use Rattle.aoe_nbd_serve.specs.Deeds.{settled}
use Rattle.aoe_nbd_serve.specs.Ends.{HasEnded}
use Rattle.aoe_nbd_serve.specs.Serving.{at_link, IsHeard, IsSent, Serves}
use Rattle.aoe_nbd_serve.specs.Window.{one_if, HearsTurn, SendsOne}
use Rattle.aoe_nbd_serve.specs.declared.serving.Serving.{Serving}
use Rattle.aoe_nbd_serve.proofs.StepLemmas.{keeps-alike, went, IsAlike}

-- the first of the clock's answers stays
pub ticked : {c : Setting} {seen : ServeSeen} {later : Option (List ℕ)} {most now : ℕ} {x y : Serving} → Advanced x.host y.host now → IsAlike x y
    → y.first ≡ x.first → y.time.0 ≡ now
    → IfSome later (λ all. Added seen.link.answers later (now ∷ []))
    → Serves c seen most x → Serves c (record seen { link = record seen.link { answers = later } }) 0 y
ticked {c} {seen} {later} {most} {now} {x} {y} a alike first time told s =
    let up = a.gives_up.0 in
    let back : reverse y.host.waiting ≡ up ++ reverse x.host.waiting =
    ap (λ (l : List Done). reverse l) a.gives_up.1 ∙ reverse-append x.host.waiting (reverse up)
    ∙ ap (λ (l : List Done). l ++ reverse x.host.waiting) (reverse-reverse up) in
    record {
      new = s.new;
      steps = ticks now up ∷ s.steps;
      are = (s.are, ticks-gives-up a s.drives);
      seen_is = record {
        seen_is = seen-ticks up s.seen_is.seen_is told;
        told_is = s.seen_is.told_is;
        waits_is = s.seen_is.waits_is;
        asked_is = s.seen_is.asked_is;
      };
      few = omega arith;
      drives = drives-ticks a s.drives;
      order =
          ap (λ (l : List Done). up ++ l) s.order ∙ sym (append_assoc up (reverse x.host.waiting) (settled (owns s.steps)))
          ∙ ap (λ (l : List Done). l ++ settled (owns s.steps)) (sym back);
      look = record {
        earlier = answers_of s.steps;
        order = ap (λ (n : ℕ). n ∷ answers_of s.steps) (sym time);
        first_is = rw (time, s.look.order, first) s.look.first_is;
      };
      all = s.all;
      keeps = keeps-alike alike s.keeps;
    }

-- one frame is sent
sent-one : {c : Setting} (seen : ServeSeen) {most : ℕ} {x y : Serving} {turned : ℕ} {given : Option (List Turn)} {before after : Option (List (List ℕ))}
    → most < 128 → (o : Outgoing) (out : Sends x.host y.host before after) → out.sent ≡ o ∷ [] → IsAlike x y → y.first ≡ x.first → y.time ≡ x.time
    → Serves c (at_link seen turned given before) most x
    → Serves c (at_link seen turned given after) (most + 1) y
sent-one {c} seen {most} {x} {y} few o out is alike first time s =
    let d = s.drives in
    let law = rw is at (out.law c.start.host (log_of c.start s.steps) d.same d.matches d.tags) in
    record {
      new = s.new;
      steps = sends o ∷ s.steps;
      are = (s.are, (omega (arith, few, s.few), law.0.1));
      seen_is = record {
        seen_is = seen-sends c.start (o ∷ []) s.seen_is.seen_is (rw is at out.took);
        told_is = s.seen_is.told_is;
        waits_is = s.seen_is.waits_is;
        asked_is = s.seen_is.asked_is;
      };
      few = omega (arith, s.few);
      drives = rw is at (drives-sends out d);
      order = rw out.waiting s.order;
      look = rw (first, time) s.look;
      all = s.all;
      keeps = keeps-alike alike s.keeps;
    }

none-sent : {c : Setting} (seen : ServeSeen) {most : ℕ} {x y : Serving} {turned : ℕ} {given : Option (List Turn)} {before after : Option (List (List ℕ))}
    → (out : Sends x.host y.host before after) → out.sent ≡ [] → IsAlike x y → y.first ≡ x.first → y.time ≡ x.time
    → Serves c (at_link seen turned given before) most x
    → Serves c (at_link seen turned given after) (most + 1) y
none-sent {c} seen {most} {x} {y} out is alike first time s =
    let d = s.drives in
    record {
      new = s.new;
      steps = s.steps;
      are = s.are;
      seen_is = record {
        seen_is = seen-sends c.start [] s.seen_is.seen_is (rw is at out.took);
        told_is = s.seen_is.told_is;
        waits_is = s.seen_is.waits_is;
        asked_is = s.seen_is.asked_is;
      };
      few = omega (arith, s.few);
      drives = rw is at (drives-sends out d);
      order = rw out.waiting s.order;
      look = rw (first, time) s.look;
      all = s.all;
      keeps = keeps-alike alike s.keeps;
    }

module _ {c : Setting} (seen : ServeSeen) {most : ℕ} {x y : Serving} {turned turned' : ℕ} {given given' : Option (List Turn)} {before : Option (List (List ℕ))} (after : Option (List (List ℕ)))
    (few : most < 128) (alike : IsAlike x y) (first : y.first ≡ x.first) (time : y.time ≡ x.time) (turns_are : turned' ≡ turned) (given_is : given' ≡ given)
    (s : Serves c (at_link seen turned given before) most x) where
  sent-some : (is_sent : Bool) (sent : List Outgoing) (out : Sends x.host y.host before after) → out.sent ≡ sent → length sent ≡ one_if is_sent
      → Serves c (at_link seen turned given after) (most + 1) y
  sent-some true [] out is one = absurd (omega (arith, one))
  sent-some true (o ∷ []) out is one = sent-one seen few o out is alike first time s
  sent-some true (o ∷ p ∷ more) out is one = absurd (omega (arith, one))
  sent-some false [] out is one = none-sent seen out is alike first time s
  sent-some false (o ∷ more) out is one = absurd (omega (arith, one))

  pub sent-as : (result : Result Bool Failed) → SendsOne result x.host y.host before after
      → IsSent result c (at_link seen turned' given' after) (most + 1) y
  sent-as (Ok is_sent) out = rw (turns_are, given_is) (sent-some is_sent out.0.sent out.0 refl out.1)
  sent-as (Err failed) out =
      let w = went s in
      rw (turns_are, given_is, out) (record {
        steps = w.steps;
        are = w.are;
        run = w.run;
        seen_is = w.seen_is;
        counted = rw alike.served w.counted;
        here_is = rw alike.conversation w.here_is;
      })

ended-last : (steps : List ServeStep) (brought : Turn) → brought ≡ ended → (earlier : List Turn) × (turns_of steps ≡ brought ∷ earlier)
    → HasEnded (turns_of steps)
ended-last steps brought is (earlier, e) = (earlier, e ∙ ap (λ (t : Turn). t ∷ earlier) is)

-- a turn of the link passes
module _ {c : Setting} (seen : ServeSeen) {most : ℕ} {x y : Serving} {turned : ℕ} (turned' : ℕ) {given : Option (List Turn)} (given' : Option (List Turn)) {before after : Option (List (List ℕ))}
    (alike : IsAlike x y) (first : y.first ≡ x.first) (time : y.time ≡ x.time) (taken_is : after ≡ before)
    (s : Serves c (at_link seen turned given before) most x) where
  heard-one : {finished : Bool} (one : HearsOne finished x.host y.host turned turned' given given')
      → (s' : Serves c (at_link seen turned' given' before) most y) × ((earlier : List Turn) × (turns_of s'.steps ≡ one.brought ∷ earlier))
  heard-one one =
      let d = s.drives in
      let h = one.hears c.start.host (log_of c.start s.steps) d.same d.matches in
      let told = told_by h.0 in (
        record {
          new = s.new;
          steps = hears one.brought h.0 ∷ s.steps;
          are = (s.are, h.1);
          seen_is = record {
            seen_is = record {
              turned =
                  turned-then c.before.link.turns turned turned' c.before.link.given given given' (turns_of s.steps) (one.brought ∷ [])
                  s.seen_is.seen_is.turned one.turned_by;
              took = s.seen_is.seen_is.took;
              told = s.seen_is.seen_is.told;
            };
            told_is = s.seen_is.told_is;
            waits_is = s.seen_is.waits_is;
            asked_is = s.seen_is.asked_is;
          };
          few = s.few;
          drives = record {
            same = same-then c.start.host x.host y.host d.same one.held.same;
            matches = h.2;
            last = one.held.last ∙ d.last;
            tags = rw one.tag (tagged-heard h.0 (log_of c.start s.steps) d.tags);
          };
          order = heard-order h.0 h.3;
          look = rw (first, time) s.look;
          all = s.all;
          keeps = keeps-alike alike s.keeps;
        },
        (turns_of s.steps, refl),
      )
    where
      heard-order : (heard : Option Heard) → y.host.waiting ≡ x.host.waiting ++ told_by heard
          → told_by heard ++ outcomes s.steps ≡ reverse y.host.waiting ++ settled (owns s.steps)
      heard-order None is = rw (is, append-nil) s.order
      heard-order (Some h) is =
          rw (is, reverse-append x.host.waiting (told_by (Some h))) (ap (λ (l : List Done). told_by (Some h) ++ l) s.order)

  pub heard-as : (got : Got) → HearsTurn got x.host y.host turned turned' given given' → IsHeard (Ok got) c (at_link seen turned' given' after) most y
  heard-as got.Frame h = rw taken_is (heard-one h.one).0
  heard-as got.Quiet h = rw taken_is (heard-one h.one).0
  heard-as got.Ended h = let one = heard-one h.one in rw taken_is (one.0, ended-last one.0.steps h.one.brought (h.is refl) one.1)

  pub heard-none : (failed : Failed) → IsUnused turned turned' given given' → IsHeard (Err failed) c (at_link seen turned' given' after) most y
  heard-none failed unused =
      let w = went s in
      rw (taken_is, unused.turns, unused.given_is) (record {
        steps = w.steps;
        are = w.are;
        run = w.run;
        seen_is = w.seen_is;
        counted = rw alike.served w.counted;
        here_is = rw alike.conversation w.here_is;
      })

  pub heard-by : (result : Result Got Failed) → IfOk result (λ got. HearsTurn got x.host y.host turned turned' given given')
      → OnErr result (IsUnused turned turned' given given') → IsHeard result c (at_link seen turned' given' after) most y
  heard-by (Ok got) turn unused = heard-as got turn
  heard-by (Err failed) turn unused = heard-none failed unused
