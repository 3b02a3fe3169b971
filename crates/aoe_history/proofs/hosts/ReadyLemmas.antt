-- When a command is sent: for the first time, once it is clear, with a tag of its own; or again, with its tag.
use Rattle.std.proofs.Common.{ℕ, zero, suc, ◌<◌, ◌≤◌, ◌≡◌, ◌≢◌, ◌⊎◌, inl, inr, Bool, true, false, List, [], ◌∷◌, Some, None, ap, ◌∙◌, arith, Contains}
use Rattle.std.proofs.lemmas.Bool.{and_parts, cases_lt, eqb-false}
use Rattle.std.proofs.lemmas.List.Elements.{Contains-append_left, Contains-push}
use Rattle.aoe_base.specs.declared.counted.Lifetimes.{Lifetimes}
use Rattle.aoe_flight.specs.Outstanding.{has_tag}
use Rattle.aoe_hold.specs.Commands.{is_unsent}
use Rattle.aoe_initiator.specs.declared.step.Sent as step
use Rattle.aoe_initiator.specs.HostLaw.{IsNextBy}
use Rattle.aoe_initiator.specs.HostLog.{as_entered, as_sent, outstanding, Sending}
use Rattle.aoe_history.specs.declared.entry.Entry.{Entry}
use Rattle.aoe_history.specs.Commands.{commands_of, host_after, tickets}
use Rattle.aoe_history.specs.CommandView.{in_conflict, is_live, sends_of, upto, view, was_done, IsRequest}
use Rattle.aoe_history.specs.Frames.{clock}
use Rattle.aoe_history.specs.HostLaw.{IsSent}
use Rattle.aoe_history.specs.Setup.{HostSetup, Setup}
use Rattle.aoe_history.proofs.hosts.CommandLemmas.{sent-at, sent-view, view-at, Known}
use Rattle.aoe_history.proofs.hosts.SendLemmas.{clear-past, filtered, none-of, IsPast}
use Rattle.aoe_history.proofs.hosts.SentLemmas.{spelled-request}
use Rattle.std.specs.Option.{option_map}
use Rattle.aoe_initiator.proofs.ListLemmas.{Contains-filter, Contains-map}

-- a command is sent for the first time
pub record IsFirstSend (life : Lifetimes) (host : HostSetup) (h : List Entry) (c tag : ℕ) : Type 0 where
  pub unsent : sends_of host h c ≡ None
  pub free : (d : ℕ) (y : Sending) → 0 < d → d ≤ tickets host h → sends_of host h d ≡ Some y → is_live life host h d y ≡ true → y.tag ≢ tag
  pub past : (d : ℕ) → 0 < d → d < c → in_conflict host h d c ≡ true
      → IsPast life.requests.0 (clock h) (as_entered (view host h d)) (as_entered (view host h c))

-- a command that flies is sent again
pub record IsRepeatSend (host : HostSetup) (h : List Entry) (c tag : ℕ) : Type 0 where
  pub before : Sending
  pub sent : sends_of host h c ≡ Some before
  pub flying : was_done host h c ≡ false
  pub same : before.tag ≡ tag

pub record MayBeSent (life : Lifetimes) (host : HostSetup) (h : List Entry) (c : ℕ) (f : List ℕ) : Type 0 where
  pub tag : ℕ
  pub above : 0 < c
  pub submitted : c ≤ tickets host h
  pub request : IsRequest host (view host h c).device (view host h c).op tag f
  pub may : IsFirstSend life host h c tag ⊎ IsRepeatSend host h c tag

-- LISTS

contains-upto : (n d : ℕ) → 0 < d → d ≤ n → Contains (upto n) d
contains-upto zero d above le = absurd (omega arith)
contains-upto (suc n) d above le = elim (cases_lt n d) [
  | inl last ↦ (let same : d ≡ suc n = omega arith in rw same (Contains-push (upto n) (suc n)))
  | inr before ↦ Contains-append_left (upto n) (suc n ∷ []) d (contains-upto n d above before)
]

-- each command that was submitted is there
view-there : (host : HostSetup) (h : List Entry) (d : ℕ) → Known host h → 0 < d → d ≤ tickets host h → Contains (commands_of host h) (view host h d)
view-there host h d k above le = rw k.list (Contains-map (view host h) (upto (tickets host h)) d (contains-upto _ d above le))

-- SENDS

-- what may be sent next
send-by : (s : Setup) (host : HostSetup) (h : List Entry) (c : ℕ) (sent : step.Sent) (again : Bool) → Known host h → sent.ticket.0 ≡ c
    → IsNextBy again (host_after s host h) (commands_of host h) sent → IsFirstSend s.life host h c sent.tag ⊎ IsRepeatSend host h c sent.tag
send-by s host h c sent true k ticket may =
    let v = sent-at k may.first_due.there (ap (λ t. t.0) may.ticket ∙ ticket) in
    inr (grind (arith, may.first_due.passes))
send-by s host h c sent false k ticket may =
    let v = view-at k may.there (ap (λ t. t.0) may.ticket ∙ ticket) in
    let clear = rw (← v.is) at may.clear in
    let le = v.submitted in
    inl (record {
      unsent = (let is = (and_parts (is_unsent (as_entered (view host h c))) _ clear).0 in grind arith);
      free = λ d y above le sends alive. eqb-false _ _ (none-of (has_tag sent.tag) _ (outstanding (view host h d) y) may.free (Contains-filter _ _ _
          (filtered as_sent _ (view host h d) _ (view-there host h d k above le) (ap (option_map (outstanding (view host h d))) sends)) alive));
      past = λ d above lt co. let parts = and_parts _ _ co in
          clear-past s.life.requests.0 (clock h) _ (view host h c) (view host h d) clear (view-there host h d k above (omega arith)) parts.0 lt parts.1;
    })

pub ready : (s : Setup) (host : HostSetup) (h : List Entry) (c number : ℕ) (f : List ℕ) → Known host h
    → IsSent s host h c number f → MayBeSent s.life host h c f
ready s host h c number f k x =
    let v = sent-view s host h c number f k x in
    record {
      tag = x.sent.tag;
      above = v.above;
      submitted = v.submitted;
      request = rw (← v.is) at (spelled-request s host h _ _ _ _ f x.tag_fits x.frame.bytes);
      may = send-by s host h c x.sent x.sent.again k x.ticket_is x.may;
    }
