-- The tags of a host's commands: they are given in turn, from 1 on.
use Rattle.std.proofs.Common.{ℕ, zero, suc, ◌≡◌, ◌≤◌, ◌<◌, ◌+◌, Bool, true, false, not, nat_eq, nat_lt, List, [], ◌∷◌, length, map, Option, Some, None, refl, sym, ap, subst, ◌∙◌, arith, inl, inr, length-append}
use Rattle.std.specs.Prelude.{option_map, All, Contains, IfSome}
use Rattle.std.specs.List.{cons_option, list_any}
use Rattle.std.proofs.lemmas.Bool.{and_parts, cases_Bool, eq-eqb, eqb-true, lt-ltb}
use Rattle.std.proofs.lemmas.List.{length-map}
use Rattle.std.proofs.lemmas.List.Elements.{All-append, All-cons, All-filter, All-head, All-map, All-nil, All-tail, All-weaker}
use Rattle.std.proofs.lemmas.List.Folds.{list_any_none}
use Rattle.aoe_base.specs.declared.counted.DeviceNo.{DeviceNo}
use Rattle.aoe_base.specs.declared.counted.Millis.{Millis}
use Rattle.aoe_base.specs.declared.counted.PathNo.{PathNo}
use Rattle.aoe_base.specs.declared.counted.Ticket.{Ticket}
use Rattle.aoe_base.proofs.CountLemmas.{all-none, none-all}
use Rattle.aoe_flight.specs.declared.outstanding.Outstanding.{Outstanding}
use Rattle.aoe_flight.specs.FlightTable.{live_at}
use Rattle.aoe_flight.specs.Outstanding.{has_tag, is_over, is_taken, live, tag_after, IsNextTag}
use Rattle.aoe_hold.specs.Commands.{keeps_back, unsent}
use Rattle.aoe_initiator.proofs.MatchLemmas.{sent-from, stage-unsent}
use Rattle.aoe_initiator.specs.declared.op.Op.{Op}
use Rattle.aoe_initiator.specs.declared.outcome.Done.{Done}
use Rattle.aoe_initiator.specs.declared.step.Sent.{Sent}
use Rattle.aoe_initiator.specs.Host.{Host, Matches}
use Rattle.aoe_initiator.specs.HostLaw.{ended, IsNext, IsNextBy}
use Rattle.aoe_initiator.specs.HostLog.{after_end, after_send, as_entered, at_ticket, clock, commands, entered_at, outstanding, path_log, sent_of, stage, submitted, Event, HostCommand, Sending}
use Rattle.aoe_initiator.specs.HostLog.Event.{Sends, Submits}
use Rattle.aoe_initiator.specs.Steps.{GivesTag}
use Rattle.aoe_paths.specs.PathLog.{timeout_on}
use Rattle.aoe_block.specs.Turns.{after_heard, is_unsent, most_tagged, AreTagged, Heard, HasTag, HasTags}
use Rattle.aoe_block.proofs.HostLemmas.{count-end, count-fewer, count-has, count-one-fewer}

-- before any command
pub tags-none : HasTags 0 []
tags-none = record { few = omega arith; within = All-nil (HasTag 0) }

pub tagged-none : AreTagged 0 []
tagged-none few = tags-none

-- a command that was submitted has no tag
pub tags-submitted : {last : ℕ} (ticket : Ticket) (device : DeviceNo) (op : Op) (log : List Event) → HasTags last (commands log)
    → HasTags last (commands (Submits ticket device op ∷ log))
tags-submitted {last} ticket device op log tags =
    let c = submitted ticket device op in
    record {
      few = omega (arith, tags.few, count-end is_unsent (commands log) c, length-append (commands log) (c ∷ []));
      within = All-append (HasTag last) (commands log) (c ∷ []) tags.within (All-cons (HasTag last) c [] tt (All-nil (HasTag last)));
    }

-- one that ends keeps its own
module _ (ticket : Ticket) where
  abbrev ends : HostCommand → HostCommand
  ends = at_ticket ticket after_end

  kept : (c : HostCommand) → (ends c).sends ≡ c.sends
  kept c = elim (cases_Bool (nat_eq c.ticket.0 ticket.0)) [ inl own ↦ rw own refl | inr other ↦ rw other refl ]

  tags-ended : {last : ℕ} (cs : List HostCommand) → HasTags last cs → HasTags last (map ends cs)
  tags-ended {last} cs tags = record {
    few = omega (arith, tags.few, length-map cs ends, count-fewer is_unsent ends (λ c is. rw (kept c) at is) cs);
    within = All-map (HasTag last) ends cs (All-weaker (HasTag last) (λ c. HasTag last (ends c)) (λ c fits. rw (kept c) fits) cs tags.within);
  }

-- a frame is sent with a tag
module _ (ticket : Ticket) (tag : ℕ) (now : Millis) (path : PathNo) (timeouts : ℕ → ℕ) where
  abbrev sends : HostCommand → HostCommand
  sends = at_ticket ticket (after_send tag now path timeouts)

  was-unsent : (c : HostCommand) → is_unsent (sends c) ≡ true → is_unsent c ≡ true
  was-unsent c is = elim (cases_Bool (nat_eq c.ticket.0 ticket.0)) [ inl own ↦ absurd (let not_so = rw own at is in cc) | inr other ↦ rw other at is ]

  module _ {last last' : ℕ} (more : last ≤ last') (some : 0 < tag) (fits : tag ≤ last') where
    tag-sent : (c : HostCommand) → HasTag last c → HasTag last' (sends c)
    tag-sent c has = elim (cases_Bool (nat_eq c.ticket.0 ticket.0)) [ inl own ↦ rw own (by c.sends has) | inr other ↦ rw other (weaker c.sends has) ]
      where
        weaker : (s : Option Sending) → IfSome s (λ x. (0 < x.tag) × (x.tag ≤ last)) → IfSome s (λ x. (0 < x.tag) × (x.tag ≤ last'))
        weaker None has = tt
        weaker (Some s) has = (has.0, omega (arith, has.1, more))

        by : (s : Option Sending) → IfSome s (λ x. (0 < x.tag) × (x.tag ≤ last)) → HasTag last' (after_send tag now path timeouts (record c { sends = s }))
        by None has = (some, fits)
        by (Some s) has = (has.0, omega (arith, has.1, more))

    within-sent : (cs : List HostCommand) → All (HasTag last) cs → All (HasTag last') (map sends cs)
    within-sent cs all = All-map (HasTag last') sends cs (All-weaker (HasTag last) (λ c. HasTag last' (sends c)) tag-sent cs all)

  -- again
  tags-again : {last : ℕ} (cs : List HostCommand) → 0 < tag → tag ≤ last → HasTags last cs → HasTags last (map sends cs)
  tags-again cs some fits tags = record {
    few = omega (arith, tags.few, length-map cs sends, count-fewer is_unsent sends was-unsent cs);
    within = within-sent (omega arith) some fits cs tags.within;
  }

  -- for the first time
  tags-first : {last : ℕ} (cs : List HostCommand) (c : HostCommand) → Contains cs c → c.ticket ≡ ticket → c.sends ≡ None → tag ≡ last + 1 → HasTags last cs
      → HasTags tag (map sends cs) × (tag ≤ length cs)
  tags-first cs c there is none next tags =
      let own : nat_eq c.ticket.0 ticket.0 ≡ true = rw is (eq-eqb ticket.0 ticket.0 refl) in
      let fewer = count-one-fewer is_unsent sends was-unsent cs c there (rw none refl) (rw own refl) in (
        record {
          few = omega (arith, tags.few, next, length-map cs sends, fewer);
          within = within-sent (omega (arith, next)) (omega (arith, next)) (omega arith) cs tags.within;
        },
        omega (arith, tags.few, next, fewer),
      )

-- a tag past all of these is that of none
untaken : (last n : ℕ) (cs : List HostCommand) → last < n → All (HasTag last) cs → All (λ o. has_tag n o ≡ false) (sent_of cs)
untaken last n [] past all = All-nil (λ o. has_tag n o ≡ false)
untaken last n (c ∷ cs) past all = by c.sends refl (All-head (HasTag last) c cs all) (untaken last n cs past (All-tail (HasTag last) c cs all))
  where
    P : Outstanding → Type 0
    P o = has_tag n o ≡ false

    by : (s : Option Sending) → c.sends ≡ s → IfSome s (λ x. (0 < x.tag) × (x.tag ≤ last)) → All P (sent_of cs)
        → All P (cons_option (option_map (outstanding c) s) (sent_of cs))
    by None is has rest = rest
    by (Some s) is has rest = All-cons P (outstanding c s) (sent_of cs) other rest
      where
        other : nat_eq s.tag n ≡ false
        other = elim (cases_Bool (nat_eq s.tag n)) [ inl same ↦ absurd (omega (arith, eqb-true s.tag n same, has.1, past)) | inr no_such ↦ no_such ]

module _ (host : Host) (log : List Event) (m : Matches log host) (tags : HasTags host.flight.last_tag (commands log)) where
  free : (n : ℕ) → host.flight.last_tag < n → is_taken (live_at host.flight host.clock) n ≡ false
  free n past =
      let P : Outstanding → Type 0 = λ o. has_tag n o ≡ false in
      let sent = untaken host.flight.last_tag n (commands log) past tags.within in
      let none = all-none (has_tag n) (live host.flight.rest host.flight.latest (sent_of (commands log)))
      (All-filter (λ c. not (is_over host.flight.rest host.flight.latest c)) P (sent_of (commands log)) sent) in
      let kept = none-all (has_tag n) host.flight.commands (m.sent (has_tag n) ∙ none) in
      list_any_none (has_tag n) (live_at host.flight host.clock) (All-filter (λ c. not (is_over host.flight.rest host.clock c)) P host.flight.commands kept)

  -- so the next tag is the next number
  next-tag : (tag : ℕ) → host.flight.last_tag < 4294967295 → IsNextTag (live_at host.flight host.clock) host.flight.last_tag tag
      → tag ≡ host.flight.last_tag + 1
  next-tag tag few n = by n.steps n.place n.passed
    where
      first : tag_after host.flight.last_tag 0 ≡ host.flight.last_tag + 1
      first = let small : nat_lt (host.flight.last_tag + 0) 4294967295 ≡ true = lt-ltb _ _ (omega (arith, few)) in rw small (omega arith)

      by : (steps : ℕ) → tag ≡ tag_after host.flight.last_tag steps
          → ((k : ℕ) → k < steps → is_taken (live_at host.flight host.clock) (tag_after host.flight.last_tag k) ≡ true)
          → tag ≡ host.flight.last_tag + 1
      by zero place passed = place ∙ first
      by (suc steps) place passed = absurd (
          let taken = rw first at (passed 0 (omega arith)) in
          let not_so = free (host.flight.last_tag + 1) (omega arith) in
          cc
          )

  -- a frame that is sent has such a tag
  pub tags-sent : (host' : Host) (sent : Sent) → length (commands log) ≤ most_tagged → IsNext host (commands log) sent
      → GivesTag sent.again host.flight host.clock sent.tag host'.flight
      → (0 < sent.tag) × (sent.tag ≤ length (commands log)) × HasTags host'.flight.last_tag (commands (Sends sent.ticket sent.tag sent.path ∷ log))
  tags-sent host' sent few next gives = at sent.again next gives
    where
      timeouts : ℕ → ℕ
      timeouts = λ n. timeout_on (path_log log n) sent.path.0

      at : (b : Bool) → IsNextBy b host (commands log) sent → GivesTag b host.flight host.clock sent.tag host'.flight
          → (0 < sent.tag) × (sent.tag ≤ length (commands log)) × HasTags host'.flight.last_tag (commands (Sends sent.ticket sent.tag sent.path ∷ log))
      at true r gives =
          let from = sent-from (commands log) r.command r.first_due.there in
          let c = from.0 in
          let has : HasTag host.flight.last_tag c = subst (HasTag host.flight.last_tag) from.1.there.2 (tags.within from.1.there.0 c from.1.there.1) in
          let own : (0 < from.1.s.tag) × (from.1.s.tag ≤ host.flight.last_tag) = rw from.1.sends at has in
          let same : from.1.s.tag ≡ sent.tag = ap (λ (o : Outstanding). o.flying.tag) (sym from.1.is) ∙ r.tag in
          let some : 0 < sent.tag = omega (arith, own.0, same) in
          let within : sent.tag ≤ host.flight.last_tag = omega (arith, own.1, same) in (
            some,
            omega (arith, within, tags.few),
            rw gives
                (tags-again sent.ticket sent.tag (record { 0 = clock log }) sent.path timeouts (commands log) some within tags),
          )
      at false s gives =
          let c = s.command in
          let none : c.sends ≡ None =
          stage-unsent c.sends c.done (and_parts (unsent (stage c.sends c.done))
          (not (list_any (λ earlier. keeps_back host.life.requests.0 host.clock earlier (as_entered c)) (entered_at c.device.0 (commands log))))
          s.clear).0 in
          let waits = count-has is_unsent (commands log) c s.there (rw none refl) in
          let next = next-tag sent.tag (omega (arith, tags.few, few, waits)) gives.1 in
          let first = tags-first sent.ticket sent.tag (record { 0 = clock log }) sent.path timeouts (commands log) c s.there s.ticket none next tags in (
            omega (arith, next),
            first.1,
            rw gives.0 first.0,
          )

-- as long as there are no more commands than tags
pub tagged-submitted : {last : ℕ} (ticket : Ticket) (device : DeviceNo) (op : Op) (log : List Event) → AreTagged last log
    → AreTagged last (Submits ticket device op ∷ log)
tagged-submitted ticket device op log tags few =
    tags-submitted ticket device op log (tags (omega (arith, few, length-append (commands log) (submitted ticket device op ∷ []))))

pub tagged-gave-up : {last : ℕ} (dones : List Done) (log : List Event) → AreTagged last log → AreTagged last (ended dones log)
tagged-gave-up [] log tags few = tags few
tagged-gave-up (d ∷ dones) log tags few =
    tags-ended d.ticket (commands (ended dones log)) (tagged-gave-up dones log tags (omega (arith, few, length-map (commands (ended dones log)) (ends d.ticket))))

pub tagged-heard : {last : ℕ} (heard : Option Heard) (log : List Event) → AreTagged last log → AreTagged last (after_heard heard log)
tagged-heard None log tags few = tags few
tagged-heard (Some h) log tags few =
    tags-ended h.ticket (commands log) (tags (omega (arith, few, length-map (commands log) (ends h.ticket))))
